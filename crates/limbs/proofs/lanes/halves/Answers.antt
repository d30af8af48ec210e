use native.Mathlib.Omega.{arith}
use Rattle.words.proofs.LeLaws.{num-split}
use Rattle.limbs.proofs.lanes.halves.Goals as goal

pub returns : goal.returns
returns c =
    let a = c.args in
    rw (c.half.ensures, c.half-2.ensures) (num-split a.m.now a.at 8 8 (omega arith))
