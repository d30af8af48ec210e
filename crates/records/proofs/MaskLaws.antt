-- Laws of the sets made by a test: their members, all P flakes, and the flakes from the first to the last.
use mathlib.Core.Path.{◌≡◌, refl, ap, sym, ◌∙◌}
use mathlib.Core.Bool.{Bool, true, false}
use mathlib.Core.Logic.{◌⊎◌, inl, inr}
use Prim.Native.Nat.{ℕ, zero, suc, ◌+◌, ◌-◌, ◌*◌, ◌%◌, ◌^◌, ◌<◌, ◌≤◌, min}
use native.Mathlib.Nat.{pow-suc, add_comm, div-one, one-mul}
use native.Mathlib.Omega.{arith}
use lib.Pow.{high, pow_pos, shl_exact}
use lib.Bits.{or_shifted, shifted_half, shifted_even}
use lib.Dec.{eqb, ltb, leb, lit≤}
use borrow.Author.Tests.{ltb-true, ltb-false, leb-true, leb-false, lt-ltb, le-ltb, lt-leb}
use Rattle.base.specs.Pick.{pick, both}
use Rattle.base.proofs.PickLaws.{told}
use Rattle.records.specs.Journal.{bit, flakes_with, flakes_from, flake_range, all_flakes}
use Rattle.records.proofs.BitLaws.{bit-union, bit-empty, bit-half, none_above, same_bits}

abbrev one : Bool → ℕ
one b = pick b 1 0

times : (b : Bool) (q : ℕ) → pick b q 0 ≡ one b * q
times true q = omega arith
times false q = omega arith

one_is : (b : Bool) → eqb (one b % 2) 1 ≡ b
one_is true = refl
one_is false = refl

pub with_lt : (n : ℕ) (g : ℕ → Bool) → flakes_with n g < 2 ^ n
unfolding flakes_with
with_lt zero g = omega arith
with_lt (suc n) g = rw (pow-suc 2 n) (go (g n) (with_lt n g))
  where
    go : (b : Bool) → flakes_with n g < 2 ^ n → flakes_with n g + pick b (2 ^ n) 0 < 2 ^ n * 2
    go true h = omega arith
    go false h = omega arith

-- a number above place n adds nothing to the places below it, and stands at place n
shifted_none : (a n f : ℕ) → f < n → bit (a * 2 ^ n) f ≡ false
unfolding bit
shifted_none a zero f h = absurd (omega arith)
shifted_none a (suc n) zero h = rw (div-one (a * 2 ^ suc n), shifted_even a n)
shifted_none a (suc n) (suc f) h = rw (bit-half (a * 2 ^ suc n) f, shifted_half a n) (shifted_none a n f (omega arith))

low_bit : (a n x f : ℕ) → x < 2 ^ n → f < n → bit (a * 2 ^ n + x) f ≡ bit x f
low_bit a n x f h l = rw (← or_shifted a n x h, bit-union (a * 2 ^ n) x f, shifted_none a n f l)

top_bit : (b : Bool) (n x : ℕ) → x < 2 ^ n → bit (one b * 2 ^ n + x) n ≡ b
unfolding bit
top_bit b n x h = rw (high (one b) n h) (one_is b)

-- a flake is in the set if it is below n and the test holds
pub bit_with : (n : ℕ) (g : ℕ → Bool) (f : ℕ) → bit (flakes_with n g) f ≡ both (ltb f n) (g f)
unfolding flakes_with
bit_with zero g f = rw (le-ltb f 0 (omega arith)) (bit-empty f)
bit_with (suc n) g f = go (told (ltb f n)) (told (ltb n f)) (bit_with n g f)
  where
    whole : flakes_with n g + pick (g n) (2 ^ n) 0 ≡ one (g n) * 2 ^ n + flakes_with n g
    whole = rw (times (g n) (2 ^ n)) (add_comm (flakes_with n g) (one (g n) * 2 ^ n))

    go : (ltb f n ≡ true) ⊎ (ltb f n ≡ false) → (ltb n f ≡ true) ⊎ (ltb n f ≡ false) → bit (flakes_with n g) f ≡ both (ltb f n) (g f)
        → bit (flakes_with n g + pick (g n) (2 ^ n) 0) f ≡ both (ltb f (suc n)) (g f)
    go (inl e) y again =
        let l : f < n = ltb-true f n e in
        rw (whole, low_bit (one (g n)) n (flakes_with n g) f (with_lt n g) l, lt-ltb f (suc n) (omega arith), again, e)
    go (inr e) (inl d) again = rw (le-ltb f (suc n) (omega (arith, ltb-true n f d))) (none_above (suc n) (flakes_with n g + pick (g n) (2 ^ n) 0) f (with_lt (suc n) g) (ltb-true n f d))
    go (inr e) (inr d) again =
        let q : f ≡ n = omega (arith, ltb-false f n e, ltb-false n f d) in
        rw (q, whole, lt-ltb n (suc n) (omega arith)) (top_bit (g n) n (flakes_with n g) (with_lt n g))

pub bit-all : (p f : ℕ) → bit (all_flakes p) f ≡ both (ltb f 64) (ltb f p)
bit-all p f = bit_with 64 (λ g. ltb g p) f

pub bit-from : (first last f : ℕ) → bit (flakes_from first last) f ≡ both (ltb f 64) (both (leb first f) (leb f last))
bit-from first last f = bit_with 64 (λ g. both (leb first g) (leb g last)) f

pub bit-range : (first count f : ℕ) → bit (flake_range first count) f ≡ both (ltb f 64) (both (leb first f) (ltb f (first + count)))
bit-range first count f = bit_with 64 (λ g. both (leb first g) (ltb g (first + count))) f

with_none : (n : ℕ) (g : ℕ → Bool) → ((f : ℕ) → g f ≡ false) → flakes_with n g ≡ 0
unfolding flakes_with
with_none zero g h = refl
with_none (suc n) g h = rw (with_none n g h, h n)

-- two tests of which at most one holds
with_add : (n : ℕ) (g h k : ℕ → Bool) → ((f : ℕ) → one (g f) + one (h f) ≡ one (k f)) → flakes_with n g + flakes_with n h ≡ flakes_with n k
unfolding flakes_with
with_add zero g h k e = refl
with_add (suc n) g h k e =
    let q : flakes_with n g + flakes_with n h ≡ flakes_with n k = with_add n g h k e in
    let d : (one (g n) + one (h n)) * 2 ^ n ≡ one (k n) * 2 ^ n = ap (λ (x : ℕ). x * 2 ^ n) (e n) in
    rw (times (g n) (2 ^ n), times (h n) (2 ^ n), times (k n) (2 ^ n)) (omega arith)

-- all P flakes are the number 2 ^ P - 1
all-sum : (n p : ℕ) → flakes_with n (λ f. ltb f p) + 1 ≡ 2 ^ min n p
unfolding flakes_with
all-sum zero p = let e : min 0 p ≡ 0 = omega arith in rw e
all-sum (suc n) p = go (told (ltb n p)) (all-sum n p)
  where
    go : (ltb n p ≡ true) ⊎ (ltb n p ≡ false) → flakes_with n (λ f. ltb f p) + 1 ≡ 2 ^ min n p
        → flakes_with n (λ f. ltb f p) + pick (ltb n p) (2 ^ n) 0 + 1 ≡ 2 ^ min (suc n) p
    go (inl e) again =
        let l : n < p = ltb-true n p e in
        let a : min n p ≡ n = omega arith in
        let b : min (suc n) p ≡ suc n = omega arith in
        let d : flakes_with n (λ f. ltb f p) + 1 ≡ 2 ^ n = rw a at again in
        rw (e, b, pow-suc 2 n) (omega arith)
    go (inr e) again =
        let l : p ≤ n = ltb-false n p e in
        let a : min n p ≡ min (suc n) p = omega arith in
        let d : flakes_with n (λ f. ltb f p) + 1 ≡ 2 ^ min (suc n) p = rw a at again in
        rw e (omega arith)

pub all_is : (p : ℕ) → p ≤ 64 → all_flakes p ≡ 2 ^ p - 1
all_is p h =
    let e : min 64 p ≡ p = omega arith in
    let d : all_flakes p + 1 ≡ 2 ^ p = rw e at (all-sum 64 p) in
    omega arith

pub all-full : (p : ℕ) → 64 ≤ p → all_flakes p ≡ 2 ^ 64 - 1
all-full p h =
    let e : min 64 p ≡ 64 = omega arith in
    let d : all_flakes p + 1 ≡ 2 ^ 64 = rw e at (all-sum 64 p) in
    omega arith

-- the code's shift
pub all_shift : (p : ℕ) → p < 64 → 1 * 2 ^ p % 2 ^ 64 - 1 ≡ all_flakes p
all_shift p h = rw (shl_exact {a = 1} 1 p 64 (lit≤ tt) (omega arith), one-mul (2 ^ p)) (sym (all_is p (omega arith)))

pub shift_pos : (p : ℕ) → p < 64 → 1 ≤ 1 * 2 ^ p % 2 ^ 64
shift_pos p h = rw (shl_exact {a = 1} 1 p 64 (lit≤ tt) (omega arith), one-mul (2 ^ p)) (pow_pos p)

-- a run whose last comes before its first is empty
pub from_empty : (first last : ℕ) → last < first → flakes_from first last ≡ 0
from_empty first last h = with_none 64 (λ f. both (leb first f) (leb f last)) (λ f. go f (told (leb first f)))
  where
    go : (f : ℕ) → (leb first f ≡ true) ⊎ (leb first f ≡ false) → both (leb first f) (leb f last) ≡ false
    go f (inl e) = rw (e, lt-leb f last (omega (arith, leb-true first f e)))
    go f (inr e) = rw e

-- a run with the flakes before it is all flakes up to the last
run : (first last : ℕ) → first ≤ last → flakes_from first last + all_flakes first ≡ all_flakes (last + 1)
run first last h =
    with_add 64 (λ f. both (leb first f) (leb f last)) (λ f. ltb f first) (λ f. ltb f (last + 1)) (λ f. go f (told (leb first f)) (told (leb f last)))
  where
    go : (f : ℕ) → (leb first f ≡ true) ⊎ (leb first f ≡ false) → (leb f last ≡ true) ⊎ (leb f last ≡ false)
        → one (both (leb first f) (leb f last)) + one (ltb f first) ≡ one (ltb f (last + 1))
    go f (inl a) (inl b) = rw (a, b, le-ltb f first (leb-true first f a), lt-ltb f (last + 1) (omega (arith, leb-true f last b)))
    go f (inl a) (inr b) = rw (a, b, le-ltb f first (leb-true first f a), le-ltb f (last + 1) (omega (arith, leb-false f last b)))
    go f (inr a) y = rw (a, lt-ltb f first (leb-false first f a), lt-ltb f (last + 1) (omega (arith, leb-false first f a)))

pub from_all : (first last : ℕ) {a b : ℕ} → a ≡ all_flakes first → b ≡ all_flakes (last + 1) → first ≤ last → flakes_from first last + a ≡ b
from_all first last e d h = rw (e, d) (run first last h)

-- there is no flake past 63
pub from-rest : (first last : ℕ) {a b : ℕ} → a ≡ all_flakes first → b ≡ all_flakes 64 → first ≤ last → 64 ≤ last → flakes_from first last + a ≡ b
from-rest first last e d h l = rw (e, d) (run first last h ∙ all-full (last + 1) (omega arith) ∙ sym (all-full 64 (omega arith)))

-- a flake range with no flake, and one with some: its last comes before the next one's first
pub range_none : (first count : ℕ) → count ≡ 0 → flake_range first count ≡ 0
range_none first count z = with_none 64 (λ f. both (leb first f) (ltb f (first + count))) (λ f. go f (told (leb first f)))
  where
    go : (f : ℕ) → (leb first f ≡ true) ⊎ (leb first f ≡ false) → both (leb first f) (ltb f (first + count)) ≡ false
    go f (inl e) = rw (e, le-ltb f (first + count) (omega (arith, leb-true first f e, z)))
    go f (inr e) = rw e

pub range-some : (first count : ℕ) → (count ≡ 0 → ⊥) → flakes_from first (first + count - 1) ≡ flake_range first count
range-some first count some =
    same_bits (flakes_from first (first + count - 1)) (flake_range first count)
    (λ f. bit-from first (first + count - 1) f ∙ ap (λ (b : Bool). both (ltb f 64) (both (leb first f) b)) (go f (told (leb f (first + count - 1)))) ∙ sym (bit-range first count f))
  where
    go : (f : ℕ) → (leb f (first + count - 1) ≡ true) ⊎ (leb f (first + count - 1) ≡ false) → leb f (first + count - 1) ≡ ltb f (first + count)
    go f (inl e) = e ∙ sym (lt-ltb f (first + count) (omega (arith, leb-true f (first + count - 1) e, some)))
    go f (inr e) = e ∙ sym (le-ltb f (first + count) (omega (arith, leb-false f (first + count - 1) e)))
