use mathlib.Core.Path.{◌≡◌}
use Rattle.layout.specs.Parts.{tag_at}
use Rattle.layout.proofs.Limits.{placed}
use Rattle.moving.proofs.CarryLaws.{no_tag, next-tag}
use Rattle.moving.proofs.carry.carry_tags.Goals as goal

pub loop-f-init : goal.loop-f-init
loop-f-init c = let a = c.args in no_tag a.s a.t a.vol.now a.g a.second.now

pub loop-f-preserved : goal.loop-f-preserved
loop-f-preserved c =
    let a = c.args in
    let pre = c.requires in
    let l = c.loop-f in
    let at : c.tag_at-at.result ≡ tag_at a.t a.g.lock.number l.f = placed a.t pre.1.limited c.tag_at-at.ensures in
    next-tag a.s a.t a.vol.now a.g a.second.now l.f l.invariant c.new_tag.ensures at c.copy.ensures
