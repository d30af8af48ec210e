use native.Mathlib.Omega.{arith}
use mathlib.Core.Path.{◌≡◌}
use Prim.Native.Nat.{◌+◌, ◌*◌, ◌^◌, ◌<◌}
use Rattle.limbs.specs.Limbs.{p}
use Rattle.limbs.proofs.Field.{carried}
use Rattle.limbs.proofs.Digits.{wraps}
use Rattle.limbs.proofs.carry.Goals as goal
use Rattle.limbs.proofs.carry.Goals.{After-split-u, After-split-w}

u-whole : (c : After-split-u) → c.split-c0.result.low + 5 * c.split-c4.result.high ≡ c.split-u.result.high * 2 ^ 26 + c.split-u.result.low
u-whole c = rw c.from.ensures at c.split-u.ensures.whole

u-small : (c : After-split-u) → c.split-u.result.high < 2 ^ 20
u-small c = omega (arith, u-whole c, c.split-c0.ensures.small, c.split-c4.ensures.rest)

w-whole : (c : After-split-w) → c.split-c3.result.low + c.split-c2.result.high ≡ c.split-w.result.high * 2 ^ 26 + c.split-w.result.low
w-whole c = rw c.from-2.ensures at c.split-w.ensures.whole

w-small : (c : After-split-w) → c.split-w.result.high < 2 ^ 20
w-small c = omega (arith, w-whole c, c.split-c3.ensures.small, c.split-c2.ensures.rest)

pub returns : goal.returns
returns c = let a = c.args in
    let c0 = c.split-c0 in
    let c3 = c.split-c3 in
    let c1 = c.split-c1 in
    let c4 = c.split-c4 in
    let c2 = c.split-c2 in
    let u = c.split-u in
    let w = c.split-w in
    record {
      same =
          carried (2 ^ 26) p wraps a.a a.b a.c a.d a.e c0.result.low c1.result.low c2.result.low c3.result.low c4.result.low
          c0.result.high c1.result.high c2.result.high c3.result.high c4.result.high u.result.low u.result.high w.result.low w.result.high
          c0.ensures.whole c3.ensures.whole c1.ensures.whole c4.ensures.whole c2.ensures.whole (u-whole (goal.at.returns c).After-split-u) (w-whole (goal.at.returns c).After-split-w);
      loose =
          record {
            b0 = omega (arith, u.ensures.small);
            b1 = omega (arith, c1.ensures.small, u-small (goal.at.returns c).After-split-u);
            b2 = omega (arith, c2.ensures.small);
            b3 = omega (arith, w.ensures.small);
            b4 = omega (arith, c4.ensures.small, w-small (goal.at.returns c).After-split-w);
          };
    }
