use Rattle.writing.proofs.AnswerLaws.{rekey-path, rekey-flakes}
use Rattle.answers.specs.Numbers.{accepts}
use Rattle.answers.proofs.StageLaws.{handed}
use mathlib.Core.Path.{ap, ◌∙◌}
use Rattle.writing.proofs.test_rekey.Goals as goal

pub returns : goal.returns
returns c =
    let a = c.args in
    rekey-flakes a.d a.vol.now a.n c.test_path.ensures (ap accepts c.in_ok-test_path.was) c.nugget_of-g.ensures c.shape_of.ensures c.flakes.ensures

pub returns-in_err-test_path : goal.returns-in_err-test_path
returns-in_err-test_path c =
    let a = c.args in
    handed _ _ _ c.from_residual.ensures.1 c.in_err-test_path.was
    ∙ rekey-path a.d a.vol.now a.n c.test_path.ensures (ap accepts c.in_err-test_path.was)
