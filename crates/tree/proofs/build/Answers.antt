use mathlib.Core.Path.{refl, ap, ◌∙◌}
use mathlib.Core.List.{List}
use Prim.Native.Nat.{ℕ, ◌-◌}
use native.Mathlib.Omega.{arith}
use Rattle.tree.specs.Renewed.{built, stored_down}
use Rattle.nodes.specs.Made.{store_node}
use Rattle.heaps.proofs.Steps.{stored_down-on, stored_down_end}
use Rattle.layout.proofs.Limits.{lent_small}
use Rattle.tree.proofs.build.Goals as goal

pub overflow_cast-i : goal.overflow_cast-i
overflow_cast-i c = omega (arith, c.leaves_of.ensures, (lent_small c.requires).few_leaves)

pub overflow_step-i : goal.overflow_step-i
overflow_step-i c = omega (arith, c.leaves_of.ensures, (lent_small c.requires).few_leaves)

pub overflow_step-i-in-loop-i : goal.overflow_step-i-in-loop-i
overflow_step-i-in-loop-i c = omega (arith, c.leaves_of.ensures, (lent_small c.requires).some_leaves)

pub loop-i-init : goal.loop-i-init
unfolding built
loop-i-init c =
    let a = c.args in
    let e = c.leaves_of.ensures in
    (c.requires, refl, ap (λ (k : ℕ). stored_down a.s k a.vol.now) (omega (arith, e)))

pub store-requires : goal.store-requires
store-requires c = (c.loop-i.invariant.0, omega (arith, c.loop-i-test.true), omega (arith, c.loop-i-test.true, c.loop-i.auto.i, c.leaves_of.ensures))

pub loop-i-preserved : goal.loop-i-preserved
loop-i-preserved c =
    let a = c.args in
    let l = c.loop-i in
    let st = c.store in (
      record { limited = l.invariant.0.limited; size = st.auto.vol ∙ l.invariant.0.size },
      st.auto.vol ∙ l.invariant.1,
      ap (λ (w : List ℕ). stored_down a.s (l.i - 1 - 1) w) st.ensures ∙ stored_down-on (store_node a.s) l.vol (l.i - 1) (omega (arith, c.loop-i-test.true)) ∙ l.invariant.2,
    )

pub shape_of-vol : goal.shape_of-vol
shape_of-vol c = c.loop-i.invariant.1

pub returns : goal.returns
returns c = stored_down_end _ _ (c.loop-i.i - 1) (omega (arith, c.loop-i-test.false)) ∙ c.loop-i.invariant.2
