use native.Mathlib.Nat.{mul-le-mul, le_of_lt}
use Rattle.layout.proofs.Limits.{width-le}
use native.Mathlib.Omega.{arith}
use mathlib.Core.Path.{refl}
use Rattle.layout.proofs.record_at.Goals as goal

pub times-requires : goal.times-requires
times-requires c = omega (arith, c.width_of.ensures, width-le c.args.s)

pub overflow_add-result : goal.overflow_add-result
overflow_add-result c =
    let a = c.args in
    omega (arith, rw c.width_of.ensures at c.times.ensures, mul-le-mul (le_of_lt c.ranges.n.fits) (width-le a.s))

pub returns : goal.returns
returns c = rw (c.times.ensures, c.width_of.ensures) refl
