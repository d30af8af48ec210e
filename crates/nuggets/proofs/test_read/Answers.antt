use Rattle.nuggets.proofs.TestLaws.{read-on, read_off}
use Rattle.answers.specs.Numbers.{accepts}
use Rattle.answers.proofs.StageLaws.{handed}
use mathlib.Core.Path.{ap, ◌∙◌}
use Rattle.nuggets.proofs.test_read.Goals as goal

pub flakes-requires : goal.flakes-requires
flakes-requires c = rw (c.shape_of.ensures, c.nugget_of-g.ensures) (c.requires.0, c.requires.1)

pub returns : goal.returns
returns c =
    let a = c.args in
    read-on a.d a.vol.now a.n a.touched c.test_path.ensures (ap accepts c.in_ok-test_path.was) c.shape_of.ensures c.nugget_of-g.ensures c.flakes.ensures

pub returns-in_err-test_path : goal.returns-in_err-test_path
returns-in_err-test_path c =
    let a = c.args in
    handed _ _ _ c.from_residual.ensures.1 c.in_err-test_path.was
    ∙ read_off a.d a.vol.now a.n a.touched c.test_path.ensures (ap accepts c.in_err-test_path.was)
