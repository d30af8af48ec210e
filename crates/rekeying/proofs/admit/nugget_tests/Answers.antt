use Rattle.changes.specs.Rekey.{nugget_tests}
use Rattle.answers.specs.Numbers.{accepts}
use Rattle.answers.proofs.StageLaws.{goes_on, stops, handed}
use mathlib.Core.Path.{sym, ◌∙◌, ap}
use Rattle.rekeying.proofs.admit.nugget_tests.Goals as goal

pub returns : goal.returns
unfolding nugget_tests
returns c =
    c.move_tests.ensures
    ∙ sym (goes_on _ _ (ap accepts (sym c.test_path.ensures) ∙ ap accepts c.in_ok-test_path.was))

pub returns-in_err-test_path : goal.returns-in_err-test_path
unfolding nugget_tests
returns-in_err-test_path c =
    let p = c.test_path.ensures in
    handed _ _ _ c.from_residual.ensures.1 c.in_err-test_path.was ∙ p ∙ sym (stops _ _ (ap accepts (sym p) ∙ ap accepts c.in_err-test_path.was))
