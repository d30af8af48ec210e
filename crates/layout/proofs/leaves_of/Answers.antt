use Prim.Native.Nat.{◌^◌}
use Rattle.layout.proofs.Height.{height-least}
use Rattle.layout.specs.Shape.{height_of}
use lib.Pow.{shl_exact}
use lib.Dec.{lit<, lit≤}
use native.Mathlib.Nat.{one-mul, le_of_lt}
use native.Mathlib.Omega.{arith}
use mathlib.Core.Path.{◌∙◌}
use Rattle.layout.proofs.leaves_of.Goals as goal

pub overflow_shl-result : goal.overflow_shl-result
overflow_shl-result c = omega (arith, c.height_of.ensures, height-least 32 c.args.n (lit≤ tt) (le_of_lt c.ranges.n.fits))

pub returns : goal.returns
returns c =
    let few = height-least 32 c.args.n (lit≤ tt) (le_of_lt c.ranges.n.fits) in
    rw c.height_of.ensures (shl_exact {a = 1} 1 (height_of c.args.n) 64 (lit< tt) (omega arith) ∙ one-mul (2 ^ height_of c.args.n))
