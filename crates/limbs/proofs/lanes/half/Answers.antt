use mathlib.Core.Path.{sym}
use native.Mathlib.Omega.{arith}
use Rattle.words.proofs.LeLaws.{num-split}
use Rattle.limbs.proofs.lanes.half.Goals as goal

pub returns : goal.returns
returns c =
    let a = c.args in
    rw (c.from.ensures, c.from-2.ensures, c.load32-a.ensures, c.load32-b.ensures) (sym (num-split a.m.now a.at 4 4 (omega arith)))
