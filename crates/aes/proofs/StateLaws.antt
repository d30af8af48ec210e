-- States: sixteen bytes, and each step of the cipher keeps that.
use mathlib.Core.Path.{◌≡◌, refl, ap, ap₂, sym, ◌∙◌}
use mathlib.Core.Logic.{◌⊎◌, inl, inr}
use mathlib.Core.Bool.{true, false}
use mathlib.Core.List.{List, [], ◌∷◌, ◌++◌, append-nil}
use Prim.Native.Nat.{ℕ, zero, suc, ◌+◌, ◌*◌, ◌/◌, ◌%◌, ◌<◌, ◌≤◌}
use native.Mathlib.Omega.{arith}
use lib.Dec.{lit<, ltb}
use lib.ListN.{length, get_or, get_or-eq_default}
use lib.Seq.{ext_get_or, take_all, sets}
use borrow.Author.Tests.{ltb-true, ltb-false}
use Rattle.base.specs.Lists.{tab, part}
use Rattle.base.proofs.PartLaws.{length_part, part-append, sets-append, sets-full}
use Rattle.base.proofs.PickLaws.{told}
use Rattle.base.proofs.TabLaws.{length-tab, get_or-tab}
use Rattle.words.specs.Le.{num, le, Bytes, serialised}
use Rattle.words.proofs.LeLaws.{length-le, le-num, bytes-append, bytes-part, serialised-bytes, length-serialised}
use Rattle.words.proofs.XorLaws.{length-xorl}
use Rattle.field.specs.Field.{matrix}
use Rattle.field.specs.Sbox.{sbox}
use Rattle.field.proofs.TableLaws.{sbox-lt}
use Rattle.aes.specs.Aes.{at, sub_bytes, shift_rows, by_columns, mix_columns, round_key, add_round_key, rounds, cipher, aes256, key_expansion}
use Rattle.aes.specs.Code.{state_bytes, state_columns}
use Rattle.aes.specs.declared.Columns.{Columns}
use Rattle.aes.proofs.WordLaws.{xorl-bytes}
use Rattle.aes.proofs.LookLaws.{matrix-bytes}

pub record State (s : List ℕ) : Type 0 where
  pub long : length s ≡ 16
  pub bytes : Bytes s

-- a state is the list of its bytes
pub listed : (s : List ℕ) → length s ≡ 16 → s ≡ tab 16 (λ i. get_or s i 0)
listed s h =
    ext_get_or 0 s (tab 16 (λ i. get_or s i 0)) (h ∙ sym (length-tab 16 (λ i. get_or s i 0)))
    (λ i l. sym (get_or-tab 16 (λ j. get_or s j 0) i 0 (rw h at l)))

tab-bytes : (n : ℕ) (f : ℕ → ℕ) → ((i : ℕ) → i < n → f i < 256) → Bytes (tab n f)
tab-bytes n f h i = go (told (ltb i n))
  where
    go : (ltb i n ≡ true) ⊎ (ltb i n ≡ false) → get_or (tab n f) i 0 < 256
    go (inl e) = let l = ltb-true i n e in rw (get_or-tab n f i 0 l) (h i l)
    go (inr e) = let l : n ≤ i = omega (arith, ltb-false i n e) in rw (get_or-eq_default (tab n f) 0 {n = i} (rw (length-tab n f) l)) (lit< tt)

-- sixteen bytes by a rule
pub tab-state : (f : ℕ → ℕ) → ((i : ℕ) → i < 16 → f i < 256) → State (tab 16 f)
tab-state f h = record { long = length-tab 16 f; bytes = tab-bytes 16 f h }

pub sub-state : (s : List ℕ) → State s → State (sub_bytes s)
unfolding sub_bytes
sub-state s h = tab-state (λ i. sbox (get_or s i 0)) (λ i l. sbox-lt (get_or s i 0) (h.bytes i))

pub shift_state : (s : List ℕ) → State s → State (shift_rows s)
unfolding shift_rows
shift_state s h = tab-state (λ i. at s (i % 4) ((i / 4 + i % 4) % 4)) (λ i l. h.bytes (i % 4 + 4 * ((i / 4 + i % 4) % 4)))

pub add-state : (w : List ℕ) (n : ℕ) (s : List ℕ) → State s → State (add_round_key w n s)
unfolding add_round_key
add-state w n s h =
    record {
      long = length-xorl s (serialised (round_key w n)) ∙ h.long;
      bytes = xorl-bytes s (serialised (round_key w n)) h.bytes (serialised-bytes (round_key w n));
    }

-- by any matrix
module _ (k l m n : ℕ) where
  long_mixed : (s : List ℕ) → length (by_columns (matrix k l m n) s) ≡ 16
  unfolding by_columns matrix
  long_mixed s = refl

  pub mix-state : (s : List ℕ) → State s → State (by_columns (matrix k l m n) s)
  unfolding by_columns
  mix-state s h =
      let c : ℕ → List ℕ = λ i. matrix k l m n (at s 0 i) (at s 1 i) (at s 2 i) (at s 3 i) in
      let one : (i : ℕ) → Bytes (c i)
      = λ i. matrix-bytes k l m n (at s 0 i) (at s 1 i) (at s 2 i) (at s 3 i) (h.bytes (0 + 4 * i)) (h.bytes (1 + 4 * i)) (h.bytes (2 + 4 * i)) (h.bytes (3 + 4 * i)) in
      record {
        long = long_mixed s;
        bytes = bytes-append (c 0) (c 1 ++ (c 2 ++ c 3)) (one 0) (bytes-append (c 1) (c 2 ++ c 3) (one 1) (bytes-append (c 2) (c 3) (one 2) (one 3)));
      }

pub rounds-state : (w : List ℕ) (n : ℕ) (s : List ℕ) → State s → State (rounds w n s)
unfolding rounds
rounds-state w zero s h = h
rounds-state w (suc n) s h =
    let t = rounds w n s in
    add-state w (suc n) (mix_columns (shift_rows (sub_bytes t)))
    (mix-state 2 1 1 3 (shift_rows (sub_bytes t)) (shift_state (sub_bytes t) (sub-state t (rounds-state w n s h))))

pub cipher-state : (w s : List ℕ) → State s → State (cipher w s)
unfolding cipher
cipher-state w s h =
    let t = rounds w 13 (add_round_key w 0 s) in
    add-state w 14 (shift_rows (sub_bytes t)) (shift_state (sub_bytes t) (sub-state t (rounds-state w 13 (add_round_key w 0 s) (add-state w 0 s h))))

-- whatever goes in, sixteen bytes come out
pub length-cipher : (w s : List ℕ) → length (cipher w s) ≡ 16
unfolding cipher add_round_key shift_rows
length-cipher w s = length-xorl (shift_rows (sub_bytes (rounds w 13 (add_round_key w 0 s)))) (serialised (round_key w 14)) ∙ length-tab 16 _

pub length-aes : (key s : List ℕ) → length (aes256 key s) ≡ 16
unfolding aes256
length-aes key s = length-cipher (key_expansion key) s

-- four columns hold a state, and a state is read back from its columns
pub bytes-state : (s : Columns) → State (state_bytes s)
unfolding state_bytes
bytes-state s =
    let w : List ℕ = s.a ∷ s.b ∷ s.c ∷ s.d ∷ [] in
    record { long = length-serialised w; bytes = serialised-bytes w }

abbrev pub app : List ℕ → List ℕ → List ℕ
app x y = x ++ y

column_back : (s : List ℕ) (at : ℕ) → at + 4 ≤ length s → Bytes s → le 4 (num (part at 4 s)) ≡ part at 4 s
column_back s at l h =
    ap (λ (n : ℕ). le n (num (part at 4 s))) (sym (length_part at 4 s l)) ∙ le-num (part at 4 s) (bytes-part at 4 s h)

pub columns-back : (s : List ℕ) → State s → state_bytes (state_columns s) ≡ s
unfolding state_bytes serialised
columns-back s h =
    let col : (at : ℕ) → at + 4 ≤ 16 → le 4 (num (part at 4 s)) ≡ part at 4 s = λ at l. column_back s at (rw h.long l) h.bytes in
    ap₂ app (col 0 (omega arith)) (ap₂ app (col 4 (omega arith)) (ap₂ app (col 8 (omega arith)) (ap₂ app (col 12 (omega arith)) refl)))
    ∙ rw (append-nil (part 12 4 s), part-append 8 4 4 12 s refl, part-append 4 4 8 8 s refl, part-append 0 4 12 4 s refl)
    (take_all 16 s (omega (arith, h.long)))

-- four words stored one after the other
pub stored : (z : List ℕ) (s : Columns) {d1 d2 d3 d4 : List ℕ} → length z ≡ 16 → d1 ≡ sets z 0 (le 4 s.a) → d2 ≡ sets d1 4 (le 4 s.b)
    → d3 ≡ sets d2 8 (le 4 s.c) → d4 ≡ sets d3 12 (le 4 s.d) → d4 ≡ state_bytes s
unfolding state_bytes serialised
stored z s {d1} {d2} {d3} {d4} h e1 e2 e3 e4 =
    let p = le 4 s.a in
    let q = le 4 s.b in
    let r = le 4 s.c in
    let v = le 4 s.d in
    let join : (l : List ℕ) (at next x : ℕ) (rest : List ℕ) → at + 4 ≡ next → sets (sets l at (le 4 x)) next rest ≡ sets l at (le 4 x ++ rest)
    = λ l at next x rest e. sym (sets-append l at (le 4 x) rest next (rw (length-le 4 x) e)) in
    e4
    ∙ ap (λ (l : List ℕ). sets l 12 v) e3
    ∙ join d2 8 12 s.c v refl
    ∙ ap (λ (l : List ℕ). sets l 8 (r ++ v)) e2
    ∙ join d1 4 8 s.b (r ++ v) refl
    ∙ ap (λ (l : List ℕ). sets l 4 (q ++ (r ++ v))) e1
    ∙ join z 0 4 s.a (q ++ (r ++ v)) refl
    ∙ ap (λ (l : List ℕ). sets z 0 (p ++ (q ++ (r ++ l)))) (sym (append-nil v))
    ∙ sets-full z (p ++ (q ++ (r ++ (v ++ [])))) (length-serialised (s.a ∷ s.b ∷ s.c ∷ s.d ∷ []) ∙ sym h)
