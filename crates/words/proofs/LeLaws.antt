-- Laws of little-endian numbers: a number read back, bytes read back, one more byte, and numbers in parts.
use mathlib.Core.Path.{◌≡◌, refl, ap, sym, ◌∙◌}
use mathlib.Core.List.{List, [], ◌∷◌, ◌++◌}
use Prim.Native.Nat.{ℕ, zero, suc, ◌+◌, ◌-◌, ◌*◌, ◌/◌, ◌%◌, ◌^◌, ◌<◌, ◌≤◌}
use native.Mathlib.Nat.{pow-suc, pow-le-pow_right, add-suc, lt_of_lt_of_le, suc-add, zero-add}
use native.Mathlib.Numerals.{add-one}
use lib.Dec.{lit≤, lit<}
use native.Mathlib.Omega.{arith}
use lib.ListN.{length, get_or, set, take, drop, length-append}
use lib.Seq.{drop-cons, get_or-drop, get_or_at, sets, take_at, take-take, take-add, drop-drop}
use Rattle.base.specs.Lists.{part}
use Rattle.base.proofs.PartLaws.{part-sets, length_part, get_or-part}
use Rattle.words.specs.Le.{num, le, serialised, Bytes}
use mir.Syntax.{w8}
use mir.Val.{Val}
use denote.Plain.{UInt}
use denote.Array.{each}
use denote.Shadow.{shadow}

pub length-le : (k x : ℕ) → length (le k x) ≡ k
unfolding le
length-le zero x = refl
length-le (suc k) x = ap suc (length-le k (x / 256))

-- a number that fits is read back
pub num-le : (k x : ℕ) → x < 256 ^ k → num (le k x) ≡ x
unfolding le num
num-le zero x h = omega arith
num-le (suc k) x h =
    let q : x < 256 ^ k * 256 = rw (pow-suc 256 k) at h in
    rw (num-le k (x / 256) (omega arith)) (omega arith)

-- the bytes of a number are bytes
pub le_bytes : (k x : ℕ) → Bytes (le k x)
unfolding le
le_bytes zero x i = omega arith
le_bytes (suc k) x zero = omega arith
le_bytes (suc k) x (suc i) = le_bytes k (x / 256) i

pub num-lt : (l : List ℕ) → Bytes l → num l < 256 ^ length l
unfolding num
num-lt [] h = omega arith
num-lt (b ∷ l) h = rw (pow-suc 256 (length l)) (omega (arith, h 0, num-lt l (λ i. h (suc i))))

-- bytes are read back
pub le-num : (l : List ℕ) → Bytes l → le (length l) (num l) ≡ l
unfolding num le
le-num [] h = refl
le-num (b ∷ l) h =
    let small : b < 256 = h 0 in
    let low : (b + 256 * num l) % 256 ≡ b = omega arith in
    let high : (b + 256 * num l) / 256 ≡ num l = omega arith in
    rw (low, high, le-num l (λ i. h (suc i)))

-- bytes after bytes, and a part of bytes
pub bytes-append : (a b : List ℕ) → Bytes a → Bytes b → Bytes (a ++ b)
bytes-append [] b p q i = q i
bytes-append (x ∷ a) b p q zero = p zero
bytes-append (x ∷ a) b p q (suc i) = bytes-append a b (λ j. p (suc j)) q i

bytes_take : (n : ℕ) (l : List ℕ) → Bytes l → Bytes (take n l)
bytes_take zero l h i = omega arith
bytes_take (suc n) [] h i = omega arith
bytes_take (suc n) (x ∷ l) h zero = h zero
bytes_take (suc n) (x ∷ l) h (suc i) = bytes_take n l (λ j. h (suc j)) i

pub bytes-part : (at n : ℕ) (l : List ℕ) → Bytes l → Bytes (part at n l)
bytes-part at n l h = bytes_take n (drop at l) (λ i. rw (get_or-drop at l i 0) (h (at + i)))

-- words as bytes
pub length-serialised : (w : List ℕ) → length (serialised w) ≡ 4 * length w
unfolding serialised
length-serialised [] = refl
length-serialised (x ∷ w) = rw (length-append (le 4 x) (serialised w), length-le 4 x, length-serialised w) (omega arith)

pub serialised-bytes : (w : List ℕ) → Bytes (serialised w)
unfolding serialised
serialised-bytes [] i = omega arith
serialised-bytes (x ∷ w) i = bytes-append (le 4 x) (serialised w) (le_bytes 4 x) (serialised-bytes w) i

-- a part of bytes, from its first byte
pub num-part : (k : ℕ) (l : List ℕ) (at : ℕ) → at < length l → num (part at (suc k) l) ≡ get_or l at 0 + 256 * num (part (suc at) k l)
unfolding num
num-part k l at h = rw (drop-cons l at 0 h)

-- a part of bytes is small
pub num-part-lt : (l : List ℕ) → Bytes l → (at k : ℕ) → at + k ≤ length l → num (part at k l) < 256 ^ k
num-part-lt l h at k room = rw (length_part at k l room) at (num-lt (part at k l) (bytes-part at k l h))

pub num-part-fits : (l : List ℕ) → Bytes l → (at k : ℕ) → k ≤ 8 → at + k ≤ length l → num (part at k l) < 2 ^ 64
num-part-fits l h at k e room = lt_of_lt_of_le (num-part-lt l h at k room) (pow-le-pow_right {n = 256} (lit≤ tt) {i = k} {j = 8} e)

-- a loop that loads from the highest byte down: `left` are the bytes to come
pub down_start : (l left : List ℕ) (at k : ℕ) → left ≡ part at k l → at + k ≤ length l
    → (length left ≤ k) × (left ≡ part at (length left) l) × (0 ≡ num (part (at + length left) (k - length left) l))
unfolding num
down_start l left at k e room =
    let n : length left ≡ k = ap length e ∙ length_part at k l room in
    let z : k - k ≡ 0 = omega arith in
    rw (n, z) (omega arith, e, refl)

-- one turn: the last of them joins the sum
pub down_next : (l : List ℕ) (at k : ℕ) {was : List ℕ} (left : List ℕ) {r : ℕ} (b : ℕ)
    → was ≡ left ++ (b ∷ [])
    → was ≡ part at (length was) l
    → length was ≤ k
    → r ≡ num (part (at + length was) (k - length was) l)
    → at + k ≤ length l
    → (length left ≤ k) × (left ≡ part at (length left) l) × (r * 256 + b ≡ num (part (at + length left) (k - length left) l))
down_next l at k {was} left {r} b e h small value room =
    let n = length left in
    let more : length was ≡ suc n = ap length e ∙ length-append left (b ∷ []) ∙ add-one n in
    let same : left ++ (b ∷ []) ≡ part at (suc n) l = sym e ∙ rw more at h in
    let low : n < suc n = omega arith in
    let byte : b ≡ get_or l (at + n) 0 = sym (get_or_at left b [] 0 n refl) ∙ ap (λ (x : List ℕ). get_or x n 0) same ∙ get_or-part at (suc n) l n 0 low in
    let front : left ≡ part at n l = sym (take_at left (b ∷ []) n refl) ∙ ap (λ (x : List ℕ). take n x) same ∙ take-take n (suc n) (drop at l) (omega arith) in
    let so_far : r ≡ num (part (at + suc n) (k - suc n) l) = rw more at value in
    let f : k - n ≡ suc (k - suc n) = omega arith in
    (omega arith, front, rw (f, num-part (k - suc n) l (at + n) (omega arith), so_far, byte, add-suc at n) (omega arith))

-- and the sum fits
pub down_fits : (l : List ℕ) (at k : ℕ) {was : List ℕ} (left : List ℕ) {r : ℕ} (b : ℕ)
    → was ≡ left ++ (b ∷ [])
    → was ≡ part at (length was) l
    → length was ≤ k
    → r ≡ num (part (at + length was) (k - length was) l)
    → at + k ≤ length l
    → Bytes l
    → k ≤ 8
    → r * 256 + b < 2 ^ 64
down_fits l at k left b e h small value room bytes low =
    let q = down_next l at k left b e h small value room in
    let n = length left in
    omega (arith, q.0, q.2, num-part-fits l bytes (at + n) (k - n) (omega arith) (omega (arith, q.0)))

-- a loop that stores from the lowest byte up
pub le_next : (k i y : ℕ) → i < k → le (k - i) y ≡ y % 256 ∷ le (k - (i + 1)) (y / 256)
unfolding le
le_next k i y h =
    let f : k - i ≡ suc (k - (i + 1)) = omega arith in
    rw f

-- its turn, and its end
pub sets-le-next : (s : List ℕ) (k i y : ℕ) → i < k → sets (set s i (y % 256)) (i + 1) (le (k - (i + 1)) (y / 256)) ≡ sets s i (le (k - i) y)
sets-le-next s k i y h = rw (le_next k i y h, add-one i)

pub sets-le-done : (s : List ℕ) (k i y : ℕ) → k ≤ i → sets s i (le (k - i) y) ≡ s
unfolding le
sets-le-done s k i y h = let e : k - i ≡ 0 = omega arith in rw e

-- a number stored is loaded
pub load_store : (l : List ℕ) (at k x : ℕ) → x < 256 ^ k → at + k ≤ length l → num (part at k (sets l at (le k x))) ≡ x
load_store l at k x h room = rw (part-sets l at k (le k x) (length-le k x) room) (num-le k x h)

-- the number of joined bytes
pub num-append : (a b : List ℕ) → num (a ++ b) ≡ num a + 256 ^ length a * num b
unfolding num
num-append [] b = omega arith
num-append (x ∷ a) b = rw (num-append a b, pow-suc 256 (length a)) (omega arith)

-- a part in two pieces
pub num-split : (l : List ℕ) (from k n : ℕ) → from + k ≤ length l → num (part from (k + n) l) ≡ num (part from k l) + 256 ^ k * num (part (from + k) n l)
num-split l from k n h =
    rw (take-add k n (drop from l), num-append (part from k l) (part k n (drop from l)), length_part from k l h, drop-drop k from l)

-- an array of bytes that is owned holds bytes
pub owned_bytes : (l : List ℕ) (us : List Val) → shadow (each ℕ (UInt w8).own_val l us) → Bytes l
owned_bytes [] us s i = lit< tt
owned_bytes (b ∷ l) [] s i = absurd s
owned_bytes (b ∷ l) (u ∷ us) s zero = s.0.1
owned_bytes (b ∷ l) (u ∷ us) s (suc i) = owned_bytes l us s.1 i

-- the lowest bytes of a number, then the others
pub le_join : (k n a y : ℕ) → a < 256 ^ k → le (k + n) (a + 256 ^ k * y) ≡ le k a ++ le n y
unfolding le
le_join zero n a y h = let z : a + 1 * y ≡ y = omega arith in rw (zero-add n, z)
le_join (suc k) n a y h =
    let q : a < 256 ^ k * 256 = rw (pow-suc 256 k) at h in
    let low : (a + 256 ^ k * 256 * y) % 256 ≡ a % 256 = omega (arith, again (256 ^ k) y) in
    let high : (a + 256 ^ k * 256 * y) / 256 ≡ a / 256 + 256 ^ k * y = omega (arith, again (256 ^ k) y) in
    rw (suc-add k n, pow-suc 256 k, low, high, le_join k n (a / 256) y (omega arith))
  where
    again : (x y : ℕ) → x * 256 * y ≡ 256 * (x * y)
    again x y = omega arith

-- the four bytes of a word
pub four-num : (l : List ℕ) (k : ℕ) → k + 4 ≤ length l
    → get_or l k 0 + 256 * (get_or l (k + 1) 0 + 256 * (get_or l (k + 2) 0 + 256 * get_or l (k + 3) 0)) ≡ num (part k 4 l)
unfolding num
four-num l k h =
    let e1 : k + 1 ≡ suc k = omega arith in
    let e2 : k + 2 ≡ suc (suc k) = omega arith in
    let e3 : k + 3 ≡ suc (suc (suc k)) = omega arith in
    rw (
      e1,
      e2,
      e3,
      num-part 3 l k (omega arith),
      num-part 2 l (suc k) (omega arith),
      num-part 1 l (suc (suc k)) (omega arith),
      num-part 0 l (suc (suc (suc k))) (omega arith),
    )
    (omega arith)
