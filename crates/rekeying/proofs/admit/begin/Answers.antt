use Rattle.changes.specs.Rekey.{begin_answer, begin_tests}
use Rattle.answers.specs.Numbers.{accepts}
use Rattle.answers.proofs.StageLaws.{goes_on, stops, handed}
use mathlib.Core.Path.{sym, ◌∙◌, ap}
use Rattle.rekeying.proofs.admit.begin.Goals as goal

pub returns : goal.returns
unfolding begin_answer begin_tests
returns c = c.begin_tests.ensures ∙ sym (goes_on _ _ (ap accepts (sym c.opening.ensures) ∙ ap accepts c.in_ok-opening.was))

pub returns-in_err-opening : goal.returns-in_err-opening
unfolding begin_answer
returns-in_err-opening c = handed _ _ _ c.from_residual.ensures.1 c.in_err-opening.was ∙ c.opening.ensures ∙ sym (stops _ _ (ap accepts (sym c.opening.ensures) ∙ ap accepts c.in_err-opening.was))
