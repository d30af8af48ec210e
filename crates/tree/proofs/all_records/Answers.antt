use mathlib.Core.Path.{sym, ap, ◌∙◌}
use Prim.Native.Nat.{ℕ}
use native.Mathlib.Omega.{arith}
use Rattle.tree.specs.Whole.{records_from}
use Rattle.tree.proofs.Steps.{records_from-on, records_from_off, records_from_end}
use Rattle.tree.proofs.all_records.Goals as goal

pub loop-n-init : goal.loop-n-init
loop-n-init c = ap (λ (k : ℕ). records_from c.args.s c.args.gauge c.args.vol.now k 0) (omega arith)

pub good_record-requires : goal.good_record-requires
good_record-requires c = (c.requires, c.loop-n-test.true)

pub loop-n-preserved : goal.loop-n-preserved
loop-n-preserved c =
    let a = c.args in
    let l = c.loop-n in
    records_from-on a.s a.gauge a.vol.now l.n c.loop-n-test.true (sym c.good_record.ensures ∙ c.if-not-good_record.false) ∙ l.invariant

pub returns-then-not-good_record : goal.returns-then-not-good_record
returns-then-not-good_record c =
    let a = c.args in
    let l = c.loop-n in
    records_from_off a.s a.gauge a.vol.now l.n c.loop-n-test.true (sym c.good_record.ensures ∙ c.if-not-good_record.true) ∙ l.invariant

pub returns : goal.returns
returns c =
    let a = c.args in
    let l = c.loop-n in
    records_from_end a.s a.gauge a.vol.now l.n c.loop-n-test.false ∙ l.invariant
