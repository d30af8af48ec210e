use native.Mathlib.Omega.{arith}
use mathlib.Core.Path.{◌∙◌}
use Prim.Native.Nat.{◌+◌, ◌*◌}
use Rattle.limbs.specs.Limbs.{value}
use Rattle.limbs.specs.Bounds.{Stands}
use Rattle.limbs.specs.Lanes.{lane_of, block_at}
use Rattle.limbs.proofs.LaneLaws.{done_more, left_more, stands_by}
use Rattle.limbs.proofs.lanes.Lanes.turn.Goals as goal

pub loop-l-preserved : goal.loop-l-preserved
loop-l-preserved c =
    let t = c.loop-l in
    let now = c.loop-l-test.true in
    let a = c.args in
    let x = c.mul_add-x in
    let e = c.get-in-loop-l-2.ensures ∙ t.invariant.1 t.l (omega arith) now in
    let f = c.get.ensures in
    let g = c.halves-n.ensures in (
      done_more (λ j y. Stands (value (lane_of a.self.now.limbs j) * value (lane_of a.q.now.limbs j) + block_at a.m.now (a.at + 16 * j)) y) now c.put.ensures (stands_by x.ensures e f g) t.invariant.0,
      left_more a.self.now.limbs c.put.ensures t.invariant.1,
    )
