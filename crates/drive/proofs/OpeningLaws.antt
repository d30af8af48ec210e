-- What an accepted opening says of drive and volume.
use mathlib.Core.Path.{◌≡◌, refl, ap, ◌∙◌}
use mathlib.Core.Bool.{true, false}
use mathlib.Core.List.{List}
use Prim.Native.Nat.{ℕ}
use borrow.Author.Tests.{eq-eqb, eqb-true}
use lib.Dec.{eqb}
use lib.ListN.{length}
use Rattle.base.proofs.PickLaws.{yes, no}
use Rattle.layout.specs.Shape.{sized, in_limits}
use Rattle.layout.specs.Parts.{length_of}
use Rattle.answers.specs.Answer as A
use Rattle.answers.specs.declared.Place.TheVariants as P
use Rattle.answers.specs.Numbers.{accepts}
use Rattle.drive.specs.declared.Drive.{Drive}
use Rattle.drive.specs.Drive.{shape_of, blank_drive}
use Rattle.drive.specs.Opening.{in_form, measure_of, opening_of, head_stands}
use Rattle.drive.proofs.HeadLaws.{form_limits}
use Rattle.layout.specs.Shaped.{Shaped}
use Rattle.answers.proofs.StageLaws.{goes_on, stops, both_stages, passed}

-- what tests 1 and 2 tell
pub record Measured (d : Drive) (v : List ℕ) : Type 0 where
  pub form : in_form d ≡ true
  pub long : length v ≡ length_of (shape_of d)

pub measure-told : (d : Drive) (v : List ℕ) → accepts (measure_of d v) ≡ true → Measured d v
unfolding measure_of
measure-told d v e =
    let t₁ = passed (in_form d) _ A.Limits refl e in
    let t₂ = passed (eqb (length v) (length_of (shape_of d))) _ A.Length refl t₁.1 in
    record { form = t₁.0; long = eqb-true (length v) (length_of (shape_of d)) t₂.0 }

pub measure_lent : (d : Drive) (v : List ℕ) → accepts (measure_of d v) ≡ true → Shaped (shape_of d) v
measure_lent d v e =
    let t = measure-told d v e in
    record { limited = form_limits d t.form; size = t.long }

-- what the tests of an accepted opening tell
pub record Admitted (d : Drive) (v : List ℕ) : Type 0 where
  pub form : in_form d ≡ true
  pub long : length v ≡ length_of (shape_of d)
  pub stands : head_stands d v ≡ true

pub opening-measured : (d : Drive) (v : List ℕ) → accepts (opening_of d v) ≡ true → accepts (measure_of d v) ≡ true
unfolding opening_of
opening-measured d v e = (both_stages (measure_of d v) _ e).0

pub opening-told : (d : Drive) (v : List ℕ) → opening_of d v ≡ A.Accepted → Admitted d v
unfolding opening_of
opening-told d v e =
    let t = measure-told d v (opening-measured d v (ap accepts e)) in
    let head = (both_stages (measure_of d v) _ (ap accepts e)).1 in
    record { form = t.form; long = t.long; stands = (passed (head_stands d v) _ (A.Altered P.Head) refl head).0 }

-- and these give acceptance
pub opening-by : (d : Drive) (v : List ℕ) → in_form d ≡ true → length v ≡ length_of (shape_of d) → head_stands d v ≡ true → opening_of d v ≡ A.Accepted
unfolding opening_of measure_of
opening-by d v form long stands =
    goes_on _ _ (ap accepts (yes A.Limits form (yes A.Length (eq-eqb (length v) (length_of (shape_of d)) long) refl))) ∙ yes _ stands refl

-- its drive is in limits, and its volume is as long as the shape asks
pub opening_lent : (d : Drive) (v : List ℕ) → accepts (opening_of d v) ≡ true → Shaped (shape_of d) v
opening_lent d v e = measure_lent d v (opening-measured d v e)

-- "every later call on it gives 1": the blank drive is out of limits, and each call starts with that test
pub blank-form : in_form blank_drive ≡ false
unfolding in_form in_limits sized blank_drive
blank-form = refl

pub blank-measure : (v : List ℕ) → measure_of blank_drive v ≡ A.Limits
unfolding measure_of
blank-measure v = no _ blank-form refl

pub blank_limits : (v : List ℕ) → opening_of blank_drive v ≡ A.Limits
unfolding opening_of
blank_limits v = stops _ _ (ap accepts (blank-measure v)) ∙ blank-measure v
