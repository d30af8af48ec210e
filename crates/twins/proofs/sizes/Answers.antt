use mathlib.Core.Path.{ap, ◌∙◌}
use Rattle.answers.specs.Numbers.{accepts}
use Rattle.answers.proofs.StageLaws.{handed}
use Rattle.twins.proofs.StepLaws.{sizes-first, sizes-second, sizes_there, sizes-past}
use Rattle.twins.proofs.sizes.Goals as goal

pub returns : goal.returns
returns c =
    let a = c.args in
    sizes_there a.d a.first.now a.second.now a.n c.measure.ensures (ap accepts c.in_ok-measure.was) c.measure-2.ensures (ap accepts c.in_ok-measure-2.was) c.if-d-n.false

pub returns-then-d-n : goal.returns-then-d-n
returns-then-d-n c =
    let a = c.args in
    sizes-past a.d a.first.now a.second.now a.n c.measure.ensures (ap accepts c.in_ok-measure.was) c.measure-2.ensures (ap accepts c.in_ok-measure-2.was) c.if-d-n.true

pub returns-in_err-measure-2 : goal.returns-in_err-measure-2
returns-in_err-measure-2 c =
    let a = c.args in
    handed _ _ _ c.from_residual-in_err-measure-2.ensures.1 c.in_err-measure-2.was
    ∙ sizes-second a.d a.first.now a.second.now a.n c.measure.ensures (ap accepts c.in_ok-measure.was) c.measure-2.ensures (ap accepts c.in_err-measure-2.was)

pub returns-in_err-measure : goal.returns-in_err-measure
returns-in_err-measure c =
    let a = c.args in
    handed _ _ _ c.from_residual.ensures.1 c.in_err-measure.was
    ∙ sizes-first a.d a.first.now a.second.now a.n c.measure.ensures (ap accepts c.in_err-measure.was)
