use mathlib.Core.Path.{◌∙◌}
use native.Mathlib.Omega.{arith}
use Rattle.layout.proofs.Limits.{inside, lent_small}
use Rattle.nodes.proofs.HashLaws.{tested}
use Rattle.nodes.proofs.good.Goals as goal

pub overflow_add-end : goal.overflow_add-end
overflow_add-end c =
    let a = c.args in
    let l = c.requires.0 in
    let q = lent_small l in
    omega (arith, q.few_leaves, q.few_tags, q.few_nuggets, c.requires.2, c.node_at-at.ensures ∙ inside a.s l.limited)

pub slice_bounds-equal-end : goal.slice_bounds-equal-end
slice_bounds-equal-end c =
    let a = c.args in
    let l = c.requires.0 in
    let q = lent_small l in
    omega (arith, l.size, c.requires.2, c.node_at-at.ensures ∙ inside a.s l.limited)

pub returns : goal.returns
returns c =
    let a = c.args in
    let l = c.requires.0 in
    tested a.s a.vol.now a.i c.node_at-at.result c.equal.ensures (c.node_at-at.ensures ∙ inside a.s l.limited) c.made-m.ensures
