use native.Mathlib.Nat.{mul-le-mul, le_of_lt}
use native.Mathlib.Omega.{arith}
use mathlib.Core.Path.{refl}
use Rattle.layout.proofs.index_of.Goals as goal

pub overflow_add-result : goal.overflow_add-result
overflow_add-result c = omega (arith, c.times.ensures, mul-le-mul (le_of_lt c.ranges.n.fits) (le_of_lt c.requires))

pub returns : goal.returns
returns c = (rw c.times.ensures refl, omega (arith, c.times.ensures, mul-le-mul (le_of_lt c.ranges.n.fits) (le_of_lt c.requires)))
