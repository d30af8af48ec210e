use mathlib.Core.Path.{◌≡◌, ap, ◌∙◌}
use mathlib.Core.List.{List}
use Prim.Native.Nat.{ℕ, ◌+◌, ◌-◌, ◌/◌, ◌<◌}
use native.Mathlib.Omega.{arith}
use Rattle.layout.proofs.Limits.{limits, lent_small}
use Rattle.tree.specs.Renewed.{stored_up}
use Rattle.tree.proofs.Heights.{rises-some, rises_next, height-few}
use Rattle.nodes.specs.Made.{store_node}
use Rattle.heaps.proofs.Steps.{stored_up-on, stored_up_end}
use Rattle.tree.proofs.Steps.{renew-starts}
use Rattle.tree.proofs.renew.Goals as goal

pub overflow_add-above-end : goal.overflow_add-above-end
overflow_add-above-end c = omega (arith, c.height_of-above-end.ensures, height-few (limits c.args.s c.requires.0.limited))

pub overflow_cast-i : goal.overflow_cast-i
overflow_cast-i c = omega (arith, c.leaves_of.ensures, (lent_small c.requires.0).few_leaves)

pub overflow_add-i : goal.overflow_add-i
overflow_add-i c = omega (arith, c.leaves_of.ensures, (lent_small c.requires.0).few_leaves, c.requires.1, (lent_small c.requires.0).few_nuggets)

pub loop-above-init : goal.loop-above-init
loop-above-init c =
    let p = c.requires in
    renew-starts _ p.0 p.1 (omega (arith, c.height_of-above-end.ensures)) (omega (arith, c.leaves_of.ensures))

pub store-requires : goal.store-requires
store-requires c =
    let l = c.loop-above in
    (l.invariant.2, rises-some _ _ l.invariant.0 (omega (arith, c.loop-above-test.true)), l.invariant.1)

pub loop-above-preserved : goal.loop-above-preserved
loop-above-preserved c =
    let a = c.args in
    let l = c.loop-above in
    let k = c.height_of-above-end.result + 1 - l._above in
    let h : 0 < k = omega (arith, c.loop-above-test.true) in
    let e : c.height_of-above-end.result + 1 - (l._above + 1) ≡ k - 1 = omega arith in
    let st = c.store in rw e (
      rises_next _ _ l.invariant.0 h,
      omega (arith, l.invariant.1),
      record { limited = l.invariant.2.limited; size = st.auto.vol ∙ l.invariant.2.size },
      st.auto.vol ∙ l.invariant.3,
      ap (λ (w : List ℕ). stored_up a.s (k - 1) (l.i / 2) w) st.ensures ∙ stored_up-on (store_node a.s) l.vol k l.i h ∙ l.invariant.4,
    )

pub shape_of-vol : goal.shape_of-vol
shape_of-vol c = c.loop-above.invariant.3

pub returns : goal.returns
returns c = stored_up_end _ _ _ _ (omega (arith, c.loop-above-test.false)) ∙ c.loop-above.invariant.4
