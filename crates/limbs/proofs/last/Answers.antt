use mathlib.Core.Path.{ap, ◌∙◌}
use Rattle.limbs.specs.Limbs.{value, limbs_of}
use Rattle.limbs.proofs.TurnLaws.{last_is}
use Rattle.limbs.proofs.last.Goals as goal

pub returns : goal.returns
returns c = let a = c.args in
    let h = c.requires in
    c.freeze.ensures ∙ ap limbs_of (rw c.new.ensures at c.run.ensures.same ∙ last_is (value a.r) (value a.a) a.b.now h.0.under h.2)
