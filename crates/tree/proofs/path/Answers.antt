use mathlib.Core.Path.{sym, ◌∙◌}
use native.Mathlib.Omega.{arith}
use Rattle.layout.specs.Shape.{height_of}
use Rattle.tree.proofs.Heights.{rises-leaf, rises-half}
use Rattle.tree.proofs.Steps.{path-on, path_off}
use Rattle.layout.proofs.Limits.{lent_small}
use Rattle.tree.proofs.path.Goals as goal

pub overflow_cast-leaf : goal.overflow_cast-leaf
overflow_cast-leaf c = omega (arith, c.leaves_of.ensures, (lent_small c.requires.0).few_leaves)

pub overflow_add-leaf : goal.overflow_add-leaf
overflow_add-leaf c =
    let q = lent_small c.requires.0 in
    omega (arith, c.leaves_of.ensures, q.few_leaves, q.few_nuggets, c.requires.1)

pub climb-requires : goal.climb-requires
climb-requires c =
    let a = c.args in
    let q = lent_small c.requires.0 in
    let e = c.leaves_of.ensures in
    (c.requires.0, rw (c.height_of.ensures, e) (rises-half (height_of a.s.n) _ (rises-leaf a.s a.n q c.requires.1)), omega (arith, e, q.enough_leaves, c.requires.1))

pub returns : goal.returns
returns c =
    let a = c.args in
    path-on a.s a.gauge a.vol.now a.n (sym c.good_record.ensures ∙ c.if-not-good_record.false) c.height_of.ensures c.leaves_of.ensures c.climb.ensures

pub returns-then-not-good_record : goal.returns-then-not-good_record
returns-then-not-good_record c =
    let a = c.args in
    path_off a.s a.gauge a.vol.now a.n (sym c.good_record.ensures ∙ c.if-not-good_record.true)
