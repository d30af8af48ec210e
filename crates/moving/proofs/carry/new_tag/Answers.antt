use mathlib.Core.Path.{◌≡◌, sym, ◌∙◌}
use Rattle.layout.specs.Parts.{flake_at, tag_at}
use Rattle.layout.proofs.Limits.{placed}
use Rattle.moving.proofs.CarryLaws.{tag-anew, tag-copied}
use Rattle.moving.proofs.carry.new_tag.Goals as goal

pub returns-then-has : goal.returns-then-has
returns-then-has c =
    let a = c.args in
    let pre = c.requires in
    let at : c.flake_at-at.result ≡ flake_at a.s a.g.lock.number a.f = placed a.s pre.0.limited c.flake_at-at.ensures in
    tag-anew a.s a.vol.now a.g a.f (sym c.has.ensures ∙ c.if-has.true) at c.tag_of.ensures

pub returns-else-has : goal.returns-else-has
returns-else-has c =
    let a = c.args in
    let pre = c.requires in
    let at : c.tag_at.result ≡ tag_at a.s a.g.lock.number a.f = placed a.s pre.0.limited c.tag_at.ensures in
    tag-copied a.s a.vol.now a.g a.f (sym c.has.ensures ∙ c.if-has.false) at c.taken.ensures
