use mathlib.Core.Path.{refl, sym, ap, ◌∙◌}
use borrow.Author.Tests.{eq-eqb, ne_eqb}
use Rattle.base.proofs.PickLaws.{yes, no}
use Rattle.answers.specs.Numbers.{accepts}
use Rattle.answers.proofs.StageLaws.{goes_on, stops, handed}
use Rattle.drive.proofs.OpeningLaws.{opening_lent}
use Rattle.moving.specs.Move.{leave_tests}
use Rattle.moving.proofs.leave_tests.Goals as goal

pub parts_tests-requires : goal.parts_tests-requires
parts_tests-requires c =
    let a = c.args in
    opening_lent a.d a.vol.now (ap accepts (sym c.opening.ensures) ∙ ap accepts c.in_ok-opening.was)

pub returns : goal.returns
unfolding leave_tests
returns c =
    c.parts_tests.ensures
    ∙ sym (goes_on _ _ (ap accepts (sym c.opening.ensures) ∙ ap accepts c.in_ok-opening.was)
    ∙ yes _ (eq-eqb _ _ c.if-d-leave.false) refl)

pub returns-then-d-leave : goal.returns-then-d-leave
unfolding leave_tests
returns-then-d-leave c =
    sym (goes_on _ _ (ap accepts (sym c.opening.ensures) ∙ ap accepts c.in_ok-opening.was)
    ∙ no _ (ne_eqb _ _ c.if-d-leave.true) refl)

pub returns-in_err-opening : goal.returns-in_err-opening
unfolding leave_tests
returns-in_err-opening c =
    let is = c.opening.ensures in
    handed _ _ _ c.from_residual.ensures.1 c.in_err-opening.was ∙ is ∙ sym (stops _ _ (ap accepts (sym is) ∙ ap accepts c.in_err-opening.was))
