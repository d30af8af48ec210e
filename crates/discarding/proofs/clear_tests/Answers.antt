use mathlib.Core.Path.{sym, ap, ◌∙◌}
use Rattle.answers.specs.Numbers.{accepts}
use Rattle.answers.proofs.StageLaws.{goes_on, stops, handed}
use Rattle.changes.specs.Discard.{clear_tests}
use Rattle.discarding.proofs.clear_tests.Goals as goal

pub returns : goal.returns
unfolding clear_tests
returns c = c.test_room.ensures ∙ sym (goes_on _ _ (ap accepts (sym c.test_path.ensures) ∙ ap accepts c.in_ok-test_path.was))

pub returns-in_err-test_path : goal.returns-in_err-test_path
unfolding clear_tests
returns-in_err-test_path c =
    handed _ _ _ c.from_residual.ensures.1 c.in_err-test_path.was
    ∙ c.test_path.ensures ∙ sym (stops _ _ (ap accepts (sym c.test_path.ensures) ∙ ap accepts c.in_err-test_path.was))
