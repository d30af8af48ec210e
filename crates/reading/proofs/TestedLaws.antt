-- What an accepted read tested of each nugget that it meets.
use mathlib.Core.Path.{◌≡◌, refl, sym, ap, ◌∙◌}
use mathlib.Core.Bool.{true, false}
use mathlib.Core.Logic.{◌⊎◌, inl, inr}
use mathlib.Core.List.{List}
use Prim.Native.Nat.{ℕ, zero, suc, ◌+◌, ◌-◌, ◌<◌, ◌≤◌}
use native.Mathlib.Omega.{arith}
use lib.Bits.{bit_and}
use lib.Dec.{eqb}
use borrow.Author.Tests.{ne_eqb, eqb-true, eqb-false}
use Rattle.base.proofs.PickLaws.{no, told}
use Rattle.layout.specs.Spots.{spot_at, capacity}
use Rattle.layout.proofs.Limits.{limits}
use Rattle.answers.specs.Answer as A
use Rattle.answers.specs.Numbers.{accepts}
use Rattle.answers.specs.Stages.{and_then}
use Rattle.answers.proofs.StageLaws.{both_stages, passed, accepted_is}
use Rattle.drive.specs.declared.Drive.{Drive}
use Rattle.drive.specs.Drive.{shape_of}
use Rattle.drive.specs.Opening.{opening_of}
use Rattle.drive.proofs.OpeningLaws.{opening_lent}
use Rattle.nuggets.specs.Nugget.{nugget_of}
use Rattle.nuggets.specs.Tests.{flakes_of, path_for, nugget_read}
use Rattle.nuggets.specs.Touched.{touched_of, span_of, fits_in}
use Rattle.nuggets.proofs.TouchLaws.{fits-within}
use Rattle.nuggets.proofs.SpanLaws.{span_has}
use Rattle.reading.specs.Read.{nuggets_up, nuggets_of, read_answer}

-- "each: path; [..] flakes": what is asked of a nugget that a read touches
pub record ReadTested (d : Drive) (v : List ℕ) (o len n : ℕ) : Type 0 where
  pub opens : opening_of d v ≡ A.Accepted
  pub fits : o + len ≤ capacity (shape_of d)
  pub path : path_for d v n ≡ A.Accepted
  pub flakes : flakes_of d v n (bit_and (nugget_of d v n).held (touched_of (shape_of d) o len n)) ≡ A.Accepted

module _ (d : Drive) (v : List ℕ) (o len : ℕ) where
  up-each : (k m : ℕ) → accepts (nuggets_up d v o len k m) ≡ true → (n : ℕ) → m ≤ n → n < m + k
      → accepts (nugget_read d v n (touched_of (shape_of d) o len n)) ≡ true
  unfolding nuggets_up and_then
  up-each zero m e n a b = absurd (omega arith)
  up-each (suc k) m e n a b =
      let q = both_stages (nugget_read d v m (touched_of (shape_of d) o len m)) (nuggets_up d v o len k (suc m)) e in
      go (told (eqb m n)) q.0 (λ r. up-each k (suc m) q.1 n r (omega arith))
    where
      go : (eqb m n ≡ true) ⊎ (eqb m n ≡ false) → accepts (nugget_read d v m (touched_of (shape_of d) o len m)) ≡ true
          → (suc m ≤ n → accepts (nugget_read d v n (touched_of (shape_of d) o len n)) ≡ true) → accepts (nugget_read d v n (touched_of (shape_of d) o len n)) ≡ true
      go (inl q) here later = rw (eqb-true m n q) at here
      go (inr q) here later = later (omega (arith, eqb-false m n q))

  pub read_opens : read_answer d v o len ≡ A.Accepted → opening_of d v ≡ A.Accepted
  unfolding read_answer and_then
  read_opens e = accepted_is (opening_of d v) (both_stages (opening_of d v) _ (ap accepts e)).0

  -- accepted: the nugget of each byte of the range passed its tests
  pub read_tests : read_answer d v o len ≡ A.Accepted → (a : ℕ) → o ≤ a → a < o + len → ReadTested d v o len (spot_at (shape_of d) a).nugget
  unfolding read_answer nuggets_of nugget_read and_then
  read_tests e a h k =
      let s = shape_of d in
      let n = (spot_at s a).nugget in
      let opened = both_stages (opening_of d v) _ (ap accepts e) in
      let inside = passed (fits_in s o len) (nuggets_of d v o len) A.PastEnd refl opened.1 in
      let span = span_of s o len in
      let met = span_has s o len a (limits s (opening_lent d v opened.0).limited) h k in
      let tests : accepts (nuggets_up d v o len (span.end - span.first) span.first) ≡ true =
      ap accepts (sym (no {b = eqb len 0} A.Accepted (ne_eqb len 0 (λ z. omega (arith, z, h, k))) refl)) ∙ inside.1 in
      let each = up-each (span.end - span.first) span.first tests n met.0 (omega (arith, met.0, met.1)) in
      let parts = both_stages (path_for d v n) (flakes_of d v n (bit_and (nugget_of d v n).held (touched_of s o len n))) each in
      record {
        opens = accepted_is (opening_of d v) opened.0;
        fits = fits-within d o len refl inside.0;
        path = accepted_is (path_for d v n) parts.0;
        flakes = accepted_is _ parts.1;
      }
