use mathlib.Core.Path.{sym, ◌∙◌}
use native.Mathlib.Omega.{arith}
use Rattle.tree.proofs.Steps.{record_on, record_off}
use Rattle.layout.proofs.Limits.{lent_small}
use Rattle.tree.proofs.good_record.Goals as goal

pub overflow_cast-leaves_of : goal.overflow_cast-leaves_of
overflow_cast-leaves_of c = omega (arith, c.leaves_of.ensures, (lent_small c.requires.0).few_leaves)

pub overflow_add-leaves_of : goal.overflow_add-leaves_of
overflow_add-leaves_of c =
    let q = lent_small c.requires.0 in
    omega (arith, c.leaves_of.ensures, q.few_leaves, q.few_nuggets, c.requires.1)

pub good-requires : goal.good-requires
good-requires c =
    let q = lent_small c.requires.0 in
    (c.requires.0, omega (arith, c.leaves_of.ensures, q.some_leaves), omega (arith, c.leaves_of.ensures, c.requires.1, q.enough_leaves))

pub returns-then-well_formed : goal.returns-then-well_formed
returns-then-well_formed c =
    let a = c.args in
    record_on a.s a.gauge a.vol.now a.n c.read-r.ensures (sym c.well_formed-2.ensures ∙ c.if-well_formed.true)
    c.leaves_of.ensures c.good.ensures

pub returns-else-well_formed : goal.returns-else-well_formed
returns-else-well_formed c =
    let a = c.args in
    c.if-well_formed.false ∙ record_off a.s a.gauge a.vol.now a.n c.read-r.ensures (sym c.well_formed-2.ensures ∙ c.if-well_formed.false)
