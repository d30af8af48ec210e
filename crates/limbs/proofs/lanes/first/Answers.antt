use native.Mathlib.Omega.{arith}
use Rattle.limbs.proofs.LaneLaws.{begun}
use Rattle.limbs.proofs.lanes.first.Goals as goal

pub returns : goal.returns
returns c =
    let t = c.loop-l in
    begun c.args.m.now t.h.limbs (λ j h. t.invariant j (omega arith)) c.requires.0 c.get.ensures c.add-x.ensures c.put-2.ensures
