use mathlib.Core.Path.{ap, ◌∙◌}
use Rattle.answers.specs.Numbers.{accepts}
use Rattle.answers.proofs.StageLaws.{handed}
use Rattle.twins.proofs.StepLaws.{tested, judge-first, judge-second, judge-last}
use Rattle.twins.proofs.AnswerLaws.{sizes-told}
use Rattle.twins.proofs.judge.Goals as goal

pub path_to-requires : goal.path_to-requires
path_to-requires c =
    let a = c.args in
    let t = sizes-told a.d a.first.now a.second.now a.n (tested c.sizes.ensures (ap accepts c.in_ok-sizes.was)) in
    (t.first, t.there)

pub path_to-requires-2 : goal.path_to-requires-2
path_to-requires-2 c =
    let a = c.args in
    let t = sizes-told a.d a.first.now a.second.now a.n (tested c.sizes.ensures (ap accepts c.in_ok-sizes.was)) in
    (t.second, t.there)

pub returns : goal.returns
returns c =
    let a = c.args in
    judge-last a.d a.first.now a.second.now a.n c.sizes.ensures (ap accepts c.in_ok-sizes.was) c.path_to.ensures (ap accepts c.in_ok-path_to.was) c.path_to-2.ensures

pub returns-in_err-path_to : goal.returns-in_err-path_to
returns-in_err-path_to c =
    let a = c.args in
    handed _ _ _ c.from_residual-in_err-path_to.ensures.1 c.in_err-path_to.was
    ∙ judge-second a.d a.first.now a.second.now a.n c.sizes.ensures (ap accepts c.in_ok-sizes.was) c.path_to.ensures (ap accepts c.in_err-path_to.was)

pub returns-in_err-sizes : goal.returns-in_err-sizes
returns-in_err-sizes c =
    let a = c.args in
    handed _ _ _ c.from_residual.ensures.1 c.in_err-sizes.was
    ∙ judge-first a.d a.first.now a.second.now a.n c.sizes.ensures (ap accepts c.in_err-sizes.was)
