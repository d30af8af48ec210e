use Rattle.changes.specs.Rekey.{sweep_answer, nugget_tests, move_tests}
use Rattle.drive.proofs.OpeningLaws.{opening_lent}
use borrow.Author.Tests.{lt-ltb, le-ltb}
use Rattle.answers.specs.Numbers.{accepts}
use Rattle.answers.proofs.StageLaws.{goes_on, stops, handed}
use Rattle.base.proofs.PickLaws.{yes, no}
use mathlib.Core.Path.{refl, sym, ◌∙◌, ap}
use Rattle.rekeying.proofs.admit.sweep.Goals as goal

pub nugget_tests-requires : goal.nugget_tests-requires
nugget_tests-requires c = (opening_lent c.args.d c.args.vol.now (ap accepts (sym c.opening.ensures) ∙ ap accepts c.in_ok-opening.was), c.if-d-n.false)

pub returns : goal.returns
unfolding sweep_answer nugget_tests move_tests
returns c = c.nugget_tests.ensures ∙ sym (goes_on _ _ (ap accepts (sym c.opening.ensures) ∙ ap accepts c.in_ok-opening.was) ∙ yes _ (sym c.is_changing.ensures ∙ c.if-not-is_changing.false) (yes _ (lt-ltb _ _ c.if-d-n.false) refl))

pub returns-then-d-n : goal.returns-then-d-n
unfolding sweep_answer
returns-then-d-n c = sym (goes_on _ _ (ap accepts (sym c.opening.ensures) ∙ ap accepts c.in_ok-opening.was) ∙ yes _ (sym c.is_changing.ensures ∙ c.if-not-is_changing.false) (no _ (le-ltb _ _ c.if-d-n.true) refl))

pub returns-then-not-is_changing : goal.returns-then-not-is_changing
unfolding sweep_answer
returns-then-not-is_changing c = sym (goes_on _ _ (ap accepts (sym c.opening.ensures) ∙ ap accepts c.in_ok-opening.was) ∙ no _ (sym c.is_changing.ensures ∙ c.if-not-is_changing.true) refl)

pub returns-in_err-opening : goal.returns-in_err-opening
unfolding sweep_answer
returns-in_err-opening c = handed _ _ _ c.from_residual.ensures.1 c.in_err-opening.was ∙ c.opening.ensures ∙ sym (stops _ _ (ap accepts (sym c.opening.ensures) ∙ ap accepts c.in_err-opening.was))
