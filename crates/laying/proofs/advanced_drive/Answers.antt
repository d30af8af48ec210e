use Rattle.laying.proofs.ChangeLaws.{advanced_is}
use mathlib.Core.Path.{◌∙◌}
use Rattle.laying.proofs.advanced_drive.Goals as goal

pub returns : goal.returns
returns c =
    let a = c.args in
    c.headed.ensures ∙ advanced_is a.d a.vol.now c.shape_of.ensures c.first-node.ensures c.kept_old-kept.ensures
