use mathlib.Core.Path.{◌∙◌}
use native.Mathlib.Omega.{arith}
use native.Mathlib.Nat.{pos_of_ne-zero}
use Rattle.layout.proofs.Limits.{lent_small}
use Rattle.tree.proofs.Heights.{stands_last, stands_down}
use Rattle.tree.proofs.Steps.{worst_is, worst_end}
use Rattle.tree.proofs.+worst_under.Goals as goal

pub returns-then-height-eq0 : goal.returns-then-height-eq0
returns-then-height-eq0 t c = c.bad-own.ensures ∙ worst_end _ _ _ _ c.if-height-eq0.true

pub overflow_mul-i : goal.overflow_mul-i
overflow_mul-i t c =
    let a = c.args in
    let p = c.requires in
    omega (arith, stands_last a.s a.height a.i p.1, (lent_small p.0).few_leaves)

pub worst_under-left-requires : goal.worst_under-left-requires
worst_under-left-requires t c =
    let a = c.args in
    let p = c.requires in
    let h = pos_of_ne-zero c.if-height-eq0.false in
    (omega (arith, h, c.decreases), (p.0, (stands_down a.s a.height a.i p.1 h).0))

pub overflow_mul-i-2 : goal.overflow_mul-i-2
overflow_mul-i-2 t c =
    let a = c.args in
    let p = c.requires in
    omega (arith, stands_last a.s a.height a.i p.1, (lent_small p.0).few_leaves)

pub overflow_add-i : goal.overflow_add-i
overflow_add-i t c =
    let a = c.args in
    let p = c.requires in
    omega (arith, stands_last a.s a.height a.i p.1, (lent_small p.0).few_leaves)

pub worst_under-right-requires : goal.worst_under-right-requires
worst_under-right-requires t c =
    let a = c.args in
    let p = c.requires in
    let h = pos_of_ne-zero c.if-height-eq0.false in
    (omega (arith, h, c.decreases), (p.0, (stands_down a.s a.height a.i p.1 h).1))

pub returns : goal.returns
returns t c =
    let a = c.args in
    worst_is a.s a.vol.now a.height a.i (pos_of_ne-zero c.if-height-eq0.false)
    c.bad-own.ensures c.worst_under-left.ensures c.worst_under-right.ensures c.max.ensures c.max-2.ensures
