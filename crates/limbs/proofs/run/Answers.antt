use native.Mathlib.Omega.{arith}
use lib.Dec.{lit≤}
use Prim.Native.Nat.{◌*◌, ◌%◌, ◌^◌}
use lib.ListN.{drop}
use Rattle.std.specs.Int.{from_bool}
use Rattle.limbs.specs.Limbs.{value, p}
use Rattle.limbs.proofs.TurnLaws.{wider, steps_more, steps_done}
use Rattle.limbs.proofs.run.Goals as goal

pub loop-i-preserved : goal.loop-i-preserved
loop-i-preserved c = let a = c.args in
    let t = c.loop-i in
    let turned = c.turn_at-h in (
      wider (lit≤ tt) turned.ensures.loose,
      (λ e. turned.ensures.loose),
      steps_more (from_bool a.whole * 2 ^ 24) a.n t.i (value a.by.r) (value t.h) (value turned.result) a.m.now c.loop-i-test.true turned.ensures.same t.invariant.2,
    )

pub returns : goal.returns
returns c = let a = c.args in
    let t = c.loop-i in
    record {
      same = steps_done (from_bool a.whole * 2 ^ 24) a.n t.i (value a.by.r) (value t.h % p) (drop (16 * t.i) a.m.now) c.loop-i-test.false t.invariant.2;
      loose = t.invariant.1 (omega arith);
    }
