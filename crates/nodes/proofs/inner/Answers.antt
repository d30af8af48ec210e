use mathlib.Core.Path.{◌∙◌}
use mathlib.Core.List.{[], ◌∷◌}
use Prim.Native.Nat.{◌+◌, ◌*◌}
use native.Mathlib.Omega.{arith}
use Rattle.layout.proofs.Limits.{inside, lent_small}
use Rattle.nodes.proofs.HashLaws.{hashed, inner_is}
use Rattle.nodes.proofs.inner.Goals as goal

pub overflow_mul-i : goal.overflow_mul-i
overflow_mul-i c =
    let a = c.args in
    let l = c.requires.0 in
    let q = lent_small l in
    omega (arith, q.few_leaves, c.requires.2)

pub overflow_add-left_end : goal.overflow_add-left_end
overflow_add-left_end c =
    let a = c.args in
    let l = c.requires.0 in
    let q = lent_small l in
    omega (arith, q.few_leaves, q.few_tags, q.few_nuggets, c.requires.2, c.node_at-left.ensures ∙ inside a.s l.limited)

pub overflow_mul-i-2 : goal.overflow_mul-i-2
overflow_mul-i-2 c =
    let a = c.args in
    let l = c.requires.0 in
    let q = lent_small l in
    omega (arith, q.few_leaves, c.requires.2)

pub overflow_add-i : goal.overflow_add-i
overflow_add-i c =
    let a = c.args in
    let l = c.requires.0 in
    let q = lent_small l in
    omega (arith, q.few_leaves, c.requires.2)

pub overflow_add-right_end : goal.overflow_add-right_end
overflow_add-right_end c =
    let a = c.args in
    let l = c.requires.0 in
    let q = lent_small l in
    omega (arith, q.few_leaves, q.few_tags, q.few_nuggets, c.requires.2, c.node_at-right.ensures ∙ inside a.s l.limited)

-- both nodes stand in the volume
pub slice_bounds-absorb-end-2 : goal.slice_bounds-absorb-end-2
slice_bounds-absorb-end-2 c =
    let l = c.requires.0 in
    omega (arith, l.size, c.requires.2, c.node_at-left.ensures ∙ inside c.args.s l.limited)

pub slice_bounds-absorb-end-3 : goal.slice_bounds-absorb-end-3
slice_bounds-absorb-end-3 c =
    let l = c.requires.0 in
    omega (arith, l.size, c.requires.2, c.node_at-right.ensures ∙ inside c.args.s l.limited)

pub returns : goal.returns
returns c =
    let a = c.args in
    let l = c.requires.0 in
    let v = a.vol.now in
    let at = c.node_at-left in
    let to = c.node_at-right in
    inner_is a.s v (2 * a.i) (2 * a.i + 1) (at.ensures ∙ inside a.s l.limited) (to.ensures ∙ inside a.s l.limited)
    (hashed v (0x54 ∷ []) at.result 32 to.result 32 c.start.ensures c.absorb-a.ensures c.absorb-b.ensures c.absorb-c.ensures c.finish.ensures)
