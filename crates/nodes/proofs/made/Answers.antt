use mathlib.Core.Path.{sym, ap, ◌∙◌}
use Prim.Native.Nat.{ℕ, ◌-◌}
use native.Mathlib.Omega.{arith}
use Rattle.nodes.specs.Nodes.{leaf_of, zero_leaf}
use Rattle.nodes.proofs.MadeLaws.{made-inner, made_bottom, bottom_leaf, bottom_zero}
use Rattle.layout.proofs.Limits.{lent_small}
use Rattle.nodes.proofs.made.Goals as goal

pub overflow_cast-first : goal.overflow_cast-first
overflow_cast-first c = omega (arith, c.leaves_of-first.ensures, (lent_small c.requires.0).few_leaves)

pub returns-then-i-first : goal.returns-then-i-first
returns-then-i-first c = c.inner.ensures ∙ sym (made-inner _ _ _ (omega (arith, c.leaves_of-first.ensures, c.if-i-first.true)))

pub returns-then-i-first-2 : goal.returns-then-i-first-2
returns-then-i-first-2 c =
    let a = c.args in
    let e = c.leaves_of-first.ensures in
    c.leaf.ensures ∙ ap (λ (x : ℕ). leaf_of a.s a.vol.now (a.i - x)) e
    ∙ sym (bottom_leaf a.s a.vol.now a.i (omega (arith, e, c.if-i-first-2.true)))
    ∙ sym (made_bottom a.s a.vol.now a.i (omega (arith, e, c.if-i-first.false)))

pub returns : goal.returns
unfolding zero_leaf
returns c =
    let a = c.args in
    let e = c.leaves_of-first.ensures in
    sym (bottom_zero a.s a.vol.now a.i (omega (arith, e, c.if-i-first.false, c.if-i-first-2.false)))
    ∙ sym (made_bottom a.s a.vol.now a.i (omega (arith, e, c.if-i-first.false)))
