use mathlib.Core.Path.{ap, ◌∙◌}
use Rattle.answers.specs.Numbers.{accepts}
use Rattle.answers.proofs.StageLaws.{handed}
use Rattle.handing.proofs.HandLaws.{hand_closed, hand_then}
use Rattle.handing.proofs.admit.Goals as goal

pub returns : goal.returns
returns c =
    let a = c.args in
    hand_then a.d a.vol.now a.one a.two a.len c.opening.ensures (ap accepts c.in_ok-opening.was) c.shape_of.ensures c.in_sectors-fits.ensures c.equal.ensures c.length_then_keys.ensures

pub returns-in_err-opening : goal.returns-in_err-opening
returns-in_err-opening c =
    let a = c.args in
    handed _ _ _ c.from_residual.ensures.1 c.in_err-opening.was
    ∙ hand_closed a.d a.vol.now a.one a.two a.len c.opening.ensures (ap accepts c.in_err-opening.was)
