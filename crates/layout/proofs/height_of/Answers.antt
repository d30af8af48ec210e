use Rattle.layout.proofs.Height.{height-zeros}
use Rattle.layout.specs.Shape.{height_of, height_from}
use native.Mathlib.Nat.{pos_of_ne-zero}
use native.Mathlib.Omega.{arith}
use mathlib.Core.Path.{refl}
use Rattle.layout.proofs.height_of.Goals as goal

pub returns-then-n-eq0 : goal.returns-then-n-eq0
unfolding height_of height_from
returns-then-n-eq0 c = rw c.if-n-eq0.true refl

pub overflow_sub-result-2 : goal.overflow_sub-result-2
overflow_sub-result-2 c = omega (arith, height-zeros c.args.n (pos_of_ne-zero c.if-n-eq0.false) c.ranges.n.fits)

pub returns : goal.returns
returns c = omega (arith, height-zeros c.args.n (pos_of_ne-zero c.if-n-eq0.false) c.ranges.n.fits)
