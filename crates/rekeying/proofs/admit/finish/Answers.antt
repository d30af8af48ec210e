use Rattle.changes.specs.Rekey.{finish_answer, finish_tests}
use Rattle.drive.proofs.OpeningLaws.{opening_lent}
use Rattle.answers.specs.Numbers.{accepts}
use Rattle.answers.proofs.StageLaws.{goes_on, stops, handed}
use Rattle.base.proofs.PickLaws.{yes, no}
use mathlib.Core.Path.{refl, sym, ◌∙◌, ap}
use Rattle.rekeying.proofs.admit.finish.Goals as goal

pub finish_tests-requires : goal.finish_tests-requires
finish_tests-requires c = opening_lent c.args.d c.args.vol.now (ap accepts (sym c.opening.ensures) ∙ ap accepts c.in_ok-opening.was)

pub returns : goal.returns
unfolding finish_answer finish_tests
returns c = c.finish_tests.ensures ∙ sym (goes_on _ _ (ap accepts (sym c.opening.ensures) ∙ ap accepts c.in_ok-opening.was) ∙ yes _ (sym c.is_changing.ensures ∙ c.if-not-is_changing.false) refl)

pub returns-then-not-is_changing : goal.returns-then-not-is_changing
unfolding finish_answer
returns-then-not-is_changing c = sym (goes_on _ _ (ap accepts (sym c.opening.ensures) ∙ ap accepts c.in_ok-opening.was) ∙ no _ (sym c.is_changing.ensures ∙ c.if-not-is_changing.true) refl)

pub returns-in_err-opening : goal.returns-in_err-opening
unfolding finish_answer
returns-in_err-opening c = handed _ _ _ c.from_residual.ensures.1 c.in_err-opening.was ∙ c.opening.ensures ∙ sym (stops _ _ (ap accepts (sym c.opening.ensures) ∙ ap accepts c.in_err-opening.was))
