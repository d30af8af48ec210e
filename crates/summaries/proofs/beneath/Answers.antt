use Rattle.std.proofs.Common.{ℕ, ◌-◌, sym, ap, ◌∙◌, arith}
use Rattle.layout.proofs.Limits.{lent_small}
use Rattle.records.specs.Record.{record_of}
use Rattle.reports.specs.Counts.{count_of, counts_in}
use Rattle.reports.proofs.CountLaws.{counts-none}
use Rattle.summaries.proofs.EntryLaws.{beneath-two, beneath-leaf, leaf-nugget, leaf-past}
use Rattle.summaries.proofs.beneath.Goals as goal

pub overflow_cast-first : goal.overflow_cast-first
overflow_cast-first c = omega (arith, c.leaves_of-first.ensures, (lent_small c.requires.0).few_leaves)

pub overflow_mul-i : goal.overflow_mul-i
overflow_mul-i c = omega (arith, c.leaves_of-first.ensures, c.if-i-first.true, (lent_small c.requires.0).few_leaves)

pub overflow_mul-i-then-i-first : goal.overflow_mul-i-then-i-first
overflow_mul-i-then-i-first c = omega (arith, c.leaves_of-first.ensures, c.if-i-first.true, (lent_small c.requires.0).few_leaves)

pub overflow_add-i : goal.overflow_add-i
overflow_add-i c = omega (arith, c.leaves_of-first.ensures, c.if-i-first.true, (lent_small c.requires.0).few_leaves)

pub returns-then-i-first : goal.returns-then-i-first
returns-then-i-first c =
    let a = c.args in
    c.rolled.ensures ∙ rw (c.load-then-i-first.ensures, c.load.ensures)
    (sym (beneath-two a.s a.epoch a.vol.now a.sum.now a.i (omega (arith, c.leaves_of-first.ensures, c.if-i-first.true))))

pub returns-then-i-first-2 : goal.returns-then-i-first-2
returns-then-i-first-2 c =
    let a = c.args in
    let e = c.leaves_of-first.ensures in
    c.count_of.ensures
    ∙ ap (count_of 64 a.epoch) (c.read.ensures ∙ ap (λ (x : ℕ). record_of a.s a.vol.now (a.i - x)) e)
    ∙ sym (beneath-leaf a.s a.epoch a.vol.now a.sum.now a.i (omega (arith, e, c.if-i-first.false)) ∙ leaf-nugget a.s a.epoch a.vol.now a.i (omega (arith, e, c.if-i-first.false, c.if-i-first-2.true)))

pub returns-else-i-first-2 : goal.returns-else-i-first-2
unfolding counts_in
returns-else-i-first-2 c =
    let a = c.args in
    let e = c.leaves_of-first.ensures in
    counts-none a.s 64 a.epoch a.vol.now c.default.ensures
    ∙ sym (beneath-leaf a.s a.epoch a.vol.now a.sum.now a.i (omega (arith, e, c.if-i-first.false)) ∙ leaf-past a.s a.epoch a.vol.now a.i (omega (arith, e, c.if-i-first.false, c.if-i-first-2.false)))
