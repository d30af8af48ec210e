use mathlib.Core.Path.{◌≡◌, ap, ◌∙◌}
use Prim.Native.Nat.{◌+◌, ◌*◌, ◌≤◌}
use native.Mathlib.Omega.{arith}
use lib.ListN.{length}
use Rattle.base.proofs.PartLaws.{length_part, part_to}
use Rattle.xts.specs.Xts.{sector_by}
use Rattle.xts.proofs.Rows.{left_more, left-all}
use Rattle.xts.proofs.SectorCode.{sectors}
use Rattle.sectors.proofs.KeyLaws.{turned}
use Rattle.sectors.proofs.RowLaws.{put_back}
use Rattle.sectors.proofs.under.Goals as goal

pub loop-i-preserved : goal.loop-i-preserved
loop-i-preserved g c =
    let s = c.loop-i in
    let a = c.args in
    let turns = g.C.Direction.turns a.cipher.now in
    let v = a.tweaks.now.words.now in
    let room : 512 * s.i + 512 ≤ length s.d = omega (arith, s.auto.d, c.loop-i-test.true) in
    let here = part_to (512 * s.i) 512 s.d in
    let size : length c.over.new.d ≡ 512 = c.over.auto.d ∙ ap length here ∙ length_part (512 * s.i) 512 s.d room in
    left_more (sectors (sector_by turns v)) s.i (a.first + s.i) s.d s.invariant c.loop-i-test.true room
    (turned turns v (a.first + s.i) _ c.tweak-t.ensures c.over.ensures ∙ ap (sector_by turns v (a.first + s.i)) here)
    size (put_back (512 * s.i) s.d _ room size) (omega arith)

pub returns : goal.returns
returns g c =
    let s = c.loop-i in
    left-all (sectors (sector_by (g.C.Direction.turns c.args.cipher.now) c.args.tweaks.now.words.now)) s.i _ s.d s.invariant c.loop-i-test.false
    (omega (arith, s.auto.d, c.loop-i-test.false, c.requires.0))
