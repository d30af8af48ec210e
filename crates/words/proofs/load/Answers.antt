use native.Mathlib.Nat.{add-zero, sub-zero}
use Prim.Native.Nat.{◌-◌, ◌+◌}
use mathlib.Core.Path.{◌≡◌, ◌∙◌}
use native.Mathlib.Omega.{arith}
use lib.ListN.{length, take, drop}
use Rattle.base.specs.Lists.{part}
use Rattle.base.proofs.PartLaws.{part_to}
use Rattle.words.specs.Le.{num}
use Rattle.words.proofs.LeLaws.{down_start, down_next, down_fits, num-part-lt}
use Rattle.words.proofs.load.Goals as goal

pub loop-b-init : goal.loop-b-init
loop-b-init c =
    let a = c.args in
    let e : c.into_iter-b-iterator.result.iter.rest.now ≡ take (a.at + a.k - a.at) (drop a.at a.s.now) = cc in
    down_start a.s.now _ a.at a.k (e ∙ part_to a.at a.k a.s.now) c.requires.1

pub loop-b-preserved : goal.loop-b-preserved
loop-b-preserved c =
    let a = c.args in
    let t = c.loop-b in
    rw c.from.ensures (down_next a.s.now a.at a.k _ _ c.in-Some.ensures.steps t.invariant.1 t.invariant.0 t.invariant.2 c.requires.1)

pub overflow_mul-r : goal.overflow_mul-r
overflow_mul-r c =
    let a = c.args in
    let t = c.loop-b in
    omega (arith, down_fits a.s.now a.at a.k _ _ c.in-Some.ensures.steps t.invariant.1 t.invariant.0 t.invariant.2 c.requires.1 (λ i. omega (arith, c.type_inv.s i)) c.requires.0)

pub overflow_add-r : goal.overflow_add-r
overflow_add-r c =
    let a = c.args in
    let t = c.loop-b in
    omega (arith, c.from.ensures, down_fits a.s.now a.at a.k _ _ c.in-Some.ensures.steps t.invariant.1 t.invariant.0 t.invariant.2 c.requires.1 (λ i. omega (arith, c.type_inv.s i)) c.requires.0)

pub returns : goal.returns
returns c =
    let a = c.args in
    let e : length c.loop-b.b-iterator.iter.rest.now ≡ 0 = c.in-None.ensures.steps.0 in
    let value : c.loop-b.r ≡ num (part (a.at + 0) (a.k - 0) a.s.now) = rw e at c.loop-b.invariant.2 in
    let is : c.loop-b.r ≡ num (part a.at a.k a.s.now) = rw (add-zero, sub-zero) at value in
    (is, rw is (num-part-lt a.s.now (λ i. omega (arith, c.type_inv.s i)) a.at a.k c.requires.1))
