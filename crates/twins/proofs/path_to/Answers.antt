use mathlib.Core.Path.{ap, ◌∙◌}
use Rattle.answers.specs.Numbers.{accepts}
use Rattle.answers.proofs.StageLaws.{handed}
use Rattle.twins.proofs.StepLaws.{path-ends, path_other, path_stops}
use Rattle.twins.proofs.path_to.Goals as goal

pub returns : goal.returns
returns c =
    let a = c.args in
    path-ends a.d a.vol.now a.n c.shape_of-s.ensures c.gauge_of.ensures c.path.ensures (ap accepts c.in_ok-path.was)
    c.first.ensures c.equal.ensures c.if-not-equal.false

pub returns-then-not-equal : goal.returns-then-not-equal
returns-then-not-equal c =
    let a = c.args in
    path_other a.d a.vol.now a.n c.shape_of-s.ensures c.gauge_of.ensures c.path.ensures (ap accepts c.in_ok-path.was)
    c.first.ensures c.equal.ensures c.if-not-equal.true

pub returns-in_err-path : goal.returns-in_err-path
returns-in_err-path c =
    let a = c.args in
    handed _ _ _ c.from_residual.ensures.1 c.in_err-path.was
    ∙ path_stops a.d a.vol.now a.n c.shape_of-s.ensures c.gauge_of.ensures c.path.ensures (ap accepts c.in_err-path.was)
