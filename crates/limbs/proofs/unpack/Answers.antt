use native.Mathlib.Omega.{arith}
use Rattle.limbs.proofs.Quads.{unpacked}
use Rattle.limbs.proofs.unpack.Goals as goal

pub returns : goal.returns
returns c = let x = c.args.x in
    let h = c.requires in
    record { ba = omega arith; bb = omega arith; bc = omega arith; bd = omega arith; whole = unpacked x.l0 x.l1 x.l2 x.l3 x.l4 }
