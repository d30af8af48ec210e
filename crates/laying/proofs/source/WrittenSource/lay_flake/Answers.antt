use Rattle.laying.proofs.FlakeLaws.{offset_room, flake-laid}
use Rattle.layout.proofs.Limits.{limits, capacity-le, placed}
use Rattle.layout.specs.Parts.{flake_at, tag_at}
use Rattle.layout.specs.Spots.{offset_at}
use native.Mathlib.Omega.{arith}
use mathlib.Core.Path.{◌≡◌}
use Rattle.laying.proofs.source.WrittenSource.lay_flake.Goals as goal

pub invariant_of-flake : goal.invariant_of-flake
invariant_of-flake c =
    let a = c.args in
    let pre = c.requires in
    let m = limits a.s pre.0.limited in
    let start : c.offset_of.result ≡ offset_at a.s a.lock.number a.f 0 = placed a.s pre.0.limited c.offset_of.ensures in
    let all = offset_room a.s a.vol.now a.lock.number a.f pre.0 pre.1 pre.2 in
    record { short = m.short; low = omega (arith, pre.2, m.narrow); within = omega (arith, start, all, capacity-le a.s m) }

pub returns : goal.returns
returns c =
    let a = c.args in
    let pre = c.requires in
    let s = a.s in
    let at : c.flake_at-at.result ≡ flake_at s a.lock.number a.f = placed s pre.0.limited c.flake_at-at.ensures in
    let start : c.offset_of.result ≡ offset_at s a.lock.number a.f 0 = placed s pre.0.limited c.offset_of.ensures in
    let tag : c.tag_at.result ≡ tag_at s a.lock.number a.f = placed s pre.0.limited c.tag_at.ensures in
    flake-laid s a.vol.now a.g a.lock a.f a.self.now.offset a.self.now.bytes.now pre.4 pre.0 pre.1 pre.2 c.flake_at-at.result c.offset_of.result c.tag_at.result at start tag c.lay_anew-tag.ensures.1 c.lay_anew-tag.ensures.0 c.copy.ensures
