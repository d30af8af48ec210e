-- Laws of the record: its bytes, its reading, and the code's test of its journal.
use Prim.{tt}
use mathlib.Core.Path.{◌≡◌, refl, sym, ap, ◌∙◌}
use mathlib.Core.Bool.{Bool, true, false}
use mathlib.Core.Logic.{◌⊎◌, inl, inr}
use mathlib.Core.List.{List}
use Prim.Native.Nat.{ℕ, ◌+◌, ◌-◌, ◌*◌, ◌/◌, ◌^◌, ◌<◌, ◌≤◌}
use native.Mathlib.Nat.{div-eq_of_lt, div-lt_iff_lt-mul, lt_of_lt_of_le}
use native.Mathlib.Omega.{arith}
use lib.Dec.{eqb, ltb}
use lib.ListN.{length}
use lib.Seq.{sets, sets-eq, length-sets}
use lib.Pow.{pow_pos, pow_mono}
use borrow.Author.Tests.{eq-eqb, ne_eqb, lt-ltb, ltb-true, ltb-false}
use Rattle.base.specs.Lists.{part}
use Rattle.base.specs.Pick.{pick}
use Rattle.base.proofs.PickLaws.{told, clash}
use Rattle.base.proofs.PartLaws.{take-sets, drop-sets, part-sets}
use Rattle.words.specs.Le.{num, le, Bytes}
use Rattle.words.proofs.LeLaws.{length-le}
use Rattle.layout.specs.declared.Shape.{Shape}
use Rattle.layout.specs.Shape.{is_one, width_of}
use Rattle.codec.specs.Row.{Values, AllLong, AllFit, ◌&◌, width, row, row_in}
use Rattle.codec.proofs.RowLaws.{length-row, row_read, row_back, row_fits, row_told, row-stored}
use Rattle.records.specs.declared.Record.{Record}
use Rattle.records.specs.Record.{record_row, record_values, record_from, record_bytes, record_in, none_from, Codes}

-- by the two layouts
width_is : (one : Bool) → width (record_row one) ≡ pick one 18 26
width_is true = refl
width_is false = refl

all-wide : (one : Bool) (r : Record) → AllLong (record_row one) (record_values one r)
all-wide true r = tt & tt & tt & tt
all-wide false r = tt & tt & tt & tt & tt

all_fit : (one : Bool) (r : Record) → r.keycount < 2 ^ 64 → r.spent < 2 ^ 64 → r.held < 2 ^ 64 → r.epoch < 2 ^ 16 → AllFit (record_row one) (record_values one r)
all_fit true r k s h e = k & h & e & tt
all_fit false r k s h e = k & s & h & e & tt

from_values : (one : Bool) (r : Record) → (one ≡ true → r.spent ≡ r.held) → record_from one (record_values one r) ≡ r
from_values true r e = λ i. record { keycount = r.keycount; spent = sym (e refl) i; held = r.held; epoch = r.epoch }
from_values false r e = refl

pub length_record : (s : Shape) (r : Record) → length (record_bytes s r) ≡ width_of s
unfolding record_bytes width_of
length_record s r = length-row (record_row (is_one s)) (record_values (is_one s) r) (all-wide (is_one s) r) ∙ width_is (is_one s)

-- a list laid over one as long
sets_over : (l : List ℕ) (at : ℕ) (a b : List ℕ) → length a ≡ length b → at + length b ≤ length l → sets (sets l at a) at b ≡ sets l at b
sets_over l at a b same room =
    sets-eq b (sets l at a) at (rw (length-sets l at a) room)
    ∙ rw (take-sets at l at a (omega arith), drop-sets (at + length b) l at a (omega (arith, same))) (sym (sets-eq b l at room))

-- as the code makes it in scratch: the held mask 10 bytes before the end, which in version 1 is the other's place
pub record_made : (s : Shape) (r : Record) (z : List ℕ) {w : ℕ} {a b d e : List ℕ} → length z ≡ 26 → w ≡ width_of s
    → a ≡ sets z 0 (le 8 r.keycount) → b ≡ sets a 8 (le 8 r.spent) → d ≡ sets b (w - 10) (le 8 r.held) → e ≡ sets d (w - 2) (le 2 r.epoch)
    → part 0 (w - 0) e ≡ record_bytes s r
unfolding record_bytes width_of
record_made s r z long ew ea eb ed ee = rw (ee, ed, eb, ea, ew) (go (is_one s))
  where
    front : (one : Bool) → pick one 18 26 ≤ 26 → part 0 (pick one 18 26) (sets z 0 (row (record_row one) (record_values one r))) ≡ row (record_row one) (record_values one r)
    front one h =
        part-sets z 0 (pick one 18 26) (row (record_row one) (record_values one r))
        (length-row (record_row one) (record_values one r) (all-wide one r) ∙ width_is one) (omega (arith, h, long))

    go : (one : Bool) → part 0 (pick one 18 26 - 0) (sets (sets (sets (sets z 0 (le 8 r.keycount)) 8 (le 8 r.spent)) (pick one 18 26 - 10) (le 8 r.held)) (pick one 18 26 - 2) (le 2 r.epoch))
        ≡ row (record_row one) (record_values one r)
    go true =
        let over = sets_over (sets z 0 (le 8 r.keycount)) 8 (le 8 r.spent) (le 8 r.held) (length-le 8 r.spent ∙ sym (length-le 8 r.held))
        (omega (arith, long, length-le 8 r.held, length-sets z 0 (le 8 r.keycount))) in
        ap (λ (x : List ℕ). part 0 18 (sets x 16 (le 2 r.epoch))) over
        ∙ ap (λ (x : List ℕ). part 0 18 x) (row-stored (record_row true) 0 z (record_values true r) (all-wide true r))
        ∙ front true (omega arith)
    go false = ap (λ (x : List ℕ). part 0 26 x) (row-stored (record_row false) 0 z (record_values false r) (all-wide false r)) ∙ front false (omega arith)

-- and its loads
pub record_loads : (s : Shape) (v : List ℕ) (at : ℕ) {w k m h e : ℕ} → w ≡ width_of s → k ≡ num (part at 8 v) → m ≡ num (part (at + 8) 8 v) → h ≡ num (part (at + w - 10) 8 v)
    → e ≡ num (part (at + w - 2) 2 v) → ◌≡◌ {A = Record} (record { keycount = k; spent = m; held = h; epoch = e }) (record_in s at v)
unfolding record_in width_of
record_loads s v at ew ek em eh ee = rw (ek, em, eh, ee, ew) (go (is_one s))
  where
    go : (one : Bool) → ◌≡◌ {A = Record} (record { keycount = num (part at 8 v); spent = num (part (at + 8) 8 v); held = num (part (at + pick one 18 26 - 10) 8 v); epoch = num (part (at + pick one 18 26 - 2) 2 v) }) (record_from one (row_in (record_row one) at 0 v))
    go true = let p : at + 18 - 10 ≡ at + 8 = omega arith in let q : at + 18 - 2 ≡ at + 16 = omega arith in rw (p, q) refl
    go false = let p : at + 26 - 10 ≡ at + 16 = omega arith in let q : at + 26 - 2 ≡ at + 24 = omega arith in rw (p, q) refl

-- a record that was stored is read back
pub read-stored : (s : Shape) (v : List ℕ) (at : ℕ) (r : Record) → Codes s r → at + width_of s ≤ length v → record_in s at (sets v at (record_bytes s r)) ≡ r
unfolding record_in record_bytes width_of
read-stored s v at r w h =
    let fit = all_fit (is_one s) r w.keycount_width w.spent_width w.held_width w.epoch_width in
    ap (record_from (is_one s)) (row_read (record_row (is_one s)) at v (record_values (is_one s) r) fit (rw (width_is (is_one s)) h)) ∙ from_values (is_one s) r w.one_mask

-- what was read is stored as it stood
values_from : (one : Bool) (z : Values (record_row one)) → record_values one (record_from one z) ≡ z
values_from true (k, (m, (e, u))) = refl
values_from false (k, (s, (h, (e, u)))) = refl

pub stored-read : (s : Shape) (v : List ℕ) (at : ℕ) → Bytes v → at + width_of s ≤ length v → record_bytes s (record_in s at v) ≡ part at (width_of s) v
unfolding record_in record_bytes width_of
stored-read s v at h room =
    ap (row (record_row (is_one s))) (values_from (is_one s) (row_in (record_row (is_one s)) at 0 v))
    ∙ row_back (record_row (is_one s)) at v h (rw (width_is (is_one s)) room) ∙ ap (λ (k : ℕ). part at k v) (width_is (is_one s))

-- what is read is within its widths
codes_from : (one : Bool) (s : Shape) (z : Values (record_row one)) → is_one s ≡ one → AllFit (record_row one) z → Codes s (record_from one z)
codes_from true s (k, (m, (e, u))) q f =
    record { keycount_width = f.0; spent_width = f.1.0; held_width = f.1.0; epoch_width = f.1.1.0; one_mask = λ x. refl }
codes_from false s (k, (m, (h, (e, u)))) q f =
    record { keycount_width = f.0; spent_width = f.1.0; held_width = f.1.1.0; epoch_width = f.1.1.1.0; one_mask = λ x. absurd (clash x q) }

pub read_codes : (s : Shape) (v : List ℕ) (at : ℕ) → Bytes v → at + width_of s ≤ length v → Codes s (record_in s at v)
unfolding record_in width_of
read_codes s v at h room =
    codes_from (is_one s) s (row_in (record_row (is_one s)) at 0 v) refl (row_fits (record_row (is_one s)) at v h (rw (width_is (is_one s)) room))

-- in version 1 the masks are equal by reading
pub read_one : (s : Shape) (v : List ℕ) (at : ℕ) → is_one s ≡ true → (record_in s at v).spent ≡ (record_in s at v).held
unfolding record_in
read_one s v at e = go (is_one s) e
  where
    go : (one : Bool) → one ≡ true → (record_from one (row_in (record_row one) at 0 v)).spent ≡ (record_from one (row_in (record_row one) at 0 v)).held
    go true q = refl
    go false q = absurd (clash q refl)

-- the bytes decide the record
pub record_told : (s : Shape) (at : ℕ) (v w : List ℕ) → part at (width_of s) v ≡ part at (width_of s) w → record_in s at v ≡ record_in s at w
unfolding record_in width_of
record_told s at v w e = ap (record_from (is_one s)) (row_told (record_row (is_one s)) at v w (rw (width_is (is_one s)) e))

-- the code's shift
pub none_shift : (p j : ℕ) → eqb (j / 2 ^ p) 0 ≡ none_from p j
none_shift p j = go (told (ltb j (2 ^ p)))
  where
    go : (ltb j (2 ^ p) ≡ true) ⊎ (ltb j (2 ^ p) ≡ false) → eqb (j / 2 ^ p) 0 ≡ ltb j (2 ^ p)
    go (inl e) = rw e (eq-eqb (j / 2 ^ p) 0 (div-eq_of_lt (ltb-true j (2 ^ p) e)))
    go (inr e) = rw e (ne_eqb (j / 2 ^ p) 0 (λ z.
        let l : j / 2 ^ p < 1 = omega arith in
        let m : j < 1 * 2 ^ p = (div-lt_iff_lt-mul (pow_pos p)).0 l in
        omega (arith, ltb-false j (2 ^ p) e)))

-- 64 flakes and more leave no bit to test
pub none-wide : (p j : ℕ) → j < 2 ^ 64 → 64 ≤ p → true ≡ none_from p j
none-wide p j h l = sym (lt-ltb j (2 ^ p) (lt_of_lt_of_le h (pow_mono {i = 64} l)))
