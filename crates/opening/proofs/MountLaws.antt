-- What a head in form says, and the mount's promise from its answer.
use mathlib.Core.Path.{◌≡◌, refl, ◌∙◌}
use mathlib.Core.Bool.{true, false}
use mathlib.Core.List.{List}
use Prim.Native.Nat.{ℕ, ◌≤◌}
use native.Mathlib.Omega.{arith}
use native.Mathlib.Nat.{add-zero}
use Rattle.words.specs.Le.{num}
use Rattle.words.proofs.LeLaws.{num-part}
use lib.Dec.{leb}
use lib.ListN.{length, get_or}
use borrow.Author.Tests.{eqb-true}
use Rattle.base.proofs.PickLaws.{both_left}
use Rattle.answers.specs.Answer.{Answer}
use Rattle.answers.specs.Answer as A
use Rattle.answers.specs.Numbers.{accepts}
use Rattle.layout.specs.Shape.{in_limits}
use Rattle.layout.specs.Parts.{length_of}
use Rattle.drive.specs.declared.Drive.{Drive}
use Rattle.drive.specs.declared.Done.{Done}
use Rattle.drive.specs.Drive.{blank_drive}
use Rattle.opening.specs.Mount.{kind_in, shape_in, mark_fits, head_fits, length_fits, opened_drive, mount_answer, mount_done, form_of}
use Rattle.answers.proofs.StageLaws.{passed}
use Rattle.layout.specs.Shaped.{Shaped}

-- byte 5 is its own number
pub kind_byte : (v : List ℕ) → 104 ≤ length v → kind_in v ≡ get_or v 5 0
unfolding num
kind_byte v h = num-part 0 v 5 (omega arith) ∙ add-zero (get_or v 5 0)

-- a head in form is that of a volume as long as its shape asks
pub form_lent : (v : List ℕ) → accepts (form_of v) ≡ true → Shaped (shape_in v) v
unfolding form_of head_fits length_fits
form_lent v e =
    let first = (passed (leb 104 (length v)) _ A.Length refl e).1 in
    let second = (passed (mark_fits v) _ A.Mark refl first).1 in
    let third = passed (head_fits v) _ A.Limits refl second in
    let fourth = passed (length_fits v) _ A.Length refl third.1 in
    record { limited = both_left (in_limits (shape_in v)) _ third.0; size = eqb-true (length v) (length_of (shape_in v)) fourth.0 }

-- the promise, from the answer
module _ (v present old : List ℕ) (outside : ℕ) {a : Answer} {d : Drive} (e : mount_answer v present old outside ≡ a) where
  pub mount-on : accepts a ≡ true → d ≡ opened_drive v present old → ◌≡◌ {A = Done} (record { answer = a; drive = d }) (mount_done v present old outside)
  unfolding mount_done
  mount-on t p = rw (e, t, p)

  pub mount_off : accepts a ≡ false → d ≡ blank_drive → ◌≡◌ {A = Done} (record { answer = a; drive = d }) (mount_done v present old outside)
  unfolding mount_done
  mount_off t p = rw (e, t, p)
