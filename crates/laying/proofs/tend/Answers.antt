use Rattle.laying.proofs.ChangeLaws.{tended_not, tended_is}
use mathlib.Core.Path.{sym, ◌∙◌}
use Rattle.laying.proofs.tend.Goals as goal

pub returns-else-not-idle : goal.returns-else-not-idle
returns-else-not-idle c =
    let a = c.args in
    tended_not a.s a.way a.n a.vol.now (sym c.idle.ensures ∙ c.if-not-idle.false)

pub returns-then-not-idle : goal.returns-then-not-idle
returns-then-not-idle c =
    let a = c.args in
    c.renew.ensures ∙ tended_is a.s a.way a.n a.vol.now (sym c.idle.ensures ∙ c.if-not-idle.true)
