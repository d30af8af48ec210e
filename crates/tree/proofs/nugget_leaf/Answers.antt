use mathlib.Core.Path.{refl, sym, ◌∙◌}
use native.Mathlib.Omega.{arith}
use borrow.Author.Tests.{le-leb, lt-leb}
use Rattle.base.proofs.PickLaws.{both-on, both_off}
use Rattle.tree.specs.Whole.{nugget_leaf}
use Rattle.layout.proofs.Limits.{limits, small}
use Rattle.tree.proofs.nugget_leaf.Goals as goal

pub overflow_cast-first : goal.overflow_cast-first
overflow_cast-first c = omega (arith, c.leaves_of-first.ensures, (small _ (limits c.args.s c.requires)).few_leaves)

pub overflow_add-result : goal.overflow_add-result
overflow_add-result c =
    let q = small _ (limits c.args.s c.requires) in
    omega (arith, c.leaves_of-first.ensures, q.few_leaves, q.few_nuggets)

pub returns-then-first-i : goal.returns-then-first-i
unfolding nugget_leaf
returns-then-first-i c =
    let e = c.leaves_of-first.ensures in
    rw (← e) (sym (both-on (le-leb _ _ c.if-first-i.true) refl))

pub returns-else-first-i : goal.returns-else-first-i
unfolding nugget_leaf
returns-else-first-i c =
    let e = c.leaves_of-first.ensures in
    rw (← e) (lt-leb _ _ c.if-first-i.false ∙ sym (both_off _ (lt-leb _ _ c.if-first-i.false)))
