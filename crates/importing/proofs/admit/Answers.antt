use mathlib.Core.Path.{ap, ◌∙◌}
use Rattle.answers.specs.Numbers.{accepts}
use Rattle.answers.proofs.StageLaws.{handed}
use Rattle.importing.proofs.ImportLaws.{answer-first, answer_then}
use Rattle.importing.proofs.admit.Goals as goal

pub returns : goal.returns
returns c =
    let a = c.args in
    answer_then a.d a.vol.now a.one a.two a.len c.admit.ensures (ap accepts c.in_ok-admit.was) c.admit-2.ensures

pub returns-in_err-admit : goal.returns-in_err-admit
returns-in_err-admit c =
    let a = c.args in
    handed _ _ _ c.from_residual.ensures.1 c.in_err-admit.was
    ∙ answer-first a.d a.vol.now a.one a.two a.len c.admit.ensures (ap accepts c.in_err-admit.was)
