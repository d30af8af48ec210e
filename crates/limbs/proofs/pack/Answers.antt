use native.Mathlib.Omega.{arith}
use mathlib.Core.Path.{◌≡◌, ◌∙◌}
use Prim.Native.Nat.{◌+◌, ◌*◌, ◌^◌}
use Rattle.limbs.proofs.Digits.{held}
use Rattle.limbs.specs.Limbs.{quad}
use Rattle.limbs.proofs.pack.Goals as goal

pub returns : goal.returns
returns c = let a = c.args in
    let q = quad a.a a.b a.c a.d in
    let bare : q + 2 ^ 104 * 0 ≡ q = omega arith in
    held c.join.result q (c.join.ensures.whole ∙ bare) c.join.ensures.small
