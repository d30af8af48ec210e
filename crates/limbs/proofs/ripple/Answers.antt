use native.Mathlib.Omega.{arith}
use Prim.Native.Nat.{◌^◌}
use Rattle.limbs.specs.Limbs.{p}
use Rattle.limbs.proofs.Field.{rippled}
use Rattle.limbs.proofs.Digits.{wraps}
use Rattle.limbs.proofs.ripple.Goals as goal

pub returns : goal.returns
returns c = let h = c.args.h in
    let s0 = c.split-c0 in
    let s1 = c.split-c1 in
    let s2 = c.split-c2 in
    let s3 = c.split-c3 in
    let s4 = c.split-c4 in
    record {
      whole =
          rippled (2 ^ 26) p wraps h.l0 h.l1 h.l2 h.l3 h.l4 c.args.x s0.result.low s1.result.low s2.result.low s3.result.low s4.result.low
          s0.result.high s1.result.high s2.result.high s3.result.high s4.result.high
          (rw c.from.ensures at s0.ensures.whole) (rw c.from-2.ensures at s1.ensures.whole) (rw c.from-3.ensures at s2.ensures.whole)
          (rw c.from-4.ensures at s3.ensures.whole) (rw c.from-5.ensures at s4.ensures.whole);
      small = record { b0 = s0.ensures.small; b1 = s1.ensures.small; b2 = s2.ensures.small; b3 = s3.ensures.small; b4 = s4.ensures.small };
      rest = s4.ensures.rest;
      light = λ ha hb hc hd he hx. omega (arith, s0.ensures.whole, s1.ensures.whole, s2.ensures.whole, s3.ensures.whole, s4.ensures.whole);
    }
