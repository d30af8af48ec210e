use Prim.Native.Nat.{◌*◌}
use native.Mathlib.Nat.{le_of_lt, mul-le-mul, div-le_self}
use native.Mathlib.Omega.{arith}
use mathlib.Core.Path.{refl}
use Rattle.keys.specs.Pads.{first_block}
use Rattle.keys.proofs.CipherLaws.{lawful}
use Rattle.keys.proofs.block_of.Goals as goal

pub overflow_mul-result : goal.overflow_mul-result
overflow_mul-result c = omega (arith, mul-le-mul (le_of_lt c.requires.1) c.requires.0)

pub nonzero_div-result : goal.nonzero_div-result
nonzero_div-result c = rw c.unit_of-unit.ensures (lawful c.args.cipher).some

pub nonzero_div-result-2 : goal.nonzero_div-result-2
nonzero_div-result-2 c = rw c.unit_of-unit.ensures (lawful c.args.cipher).some

pub overflow_add-result : goal.overflow_add-result
overflow_add-result c =
    let a = c.args in
    omega (arith, mul-le-mul (le_of_lt c.requires.1) c.requires.0, c.requires.2, div-le_self (a.f * a.size) c.unit_of-unit.result, div-le_self a.b c.unit_of-unit.result)

pub overflow_cast-result-2 : goal.overflow_cast-result-2
overflow_cast-result-2 c =
    let a = c.args in
    omega (arith, mul-le-mul (le_of_lt c.requires.1) c.requires.0, c.requires.2, div-le_self (a.f * a.size) c.unit_of-unit.result, div-le_self a.b c.unit_of-unit.result)

pub returns : goal.returns
unfolding first_block
returns c =
    let a = c.args in
    (rw c.unit_of-unit.ensures refl, omega (arith, mul-le-mul (le_of_lt c.requires.1) c.requires.0, c.requires.2, div-le_self (a.f * a.size) c.unit_of-unit.result, div-le_self a.b c.unit_of-unit.result))
