use native.Mathlib.Omega.{arith}
use Rattle.layout.proofs.Limits.{width_ge}
use Rattle.records.proofs.RecordLaws.{record_loads}
use Rattle.records.proofs.read_at.Goals as goal

pub load-requires : goal.load-requires
load-requires c = omega (arith, c.requires, c.width_of.ensures, width_ge c.args.s)

pub load-requires-2 : goal.load-requires-2
load-requires-2 c = omega (arith, c.requires, c.width_of.ensures, width_ge c.args.s)

pub overflow_sub-end : goal.overflow_sub-end
overflow_sub-end c = omega (arith, c.requires, c.width_of.ensures, width_ge c.args.s)

pub load-requires-3 : goal.load-requires-3
load-requires-3 c = omega (arith, c.requires, c.width_of.ensures, width_ge c.args.s)

pub overflow_sub-end-2 : goal.overflow_sub-end-2
overflow_sub-end-2 c = omega (arith, c.requires, c.width_of.ensures, width_ge c.args.s)

pub load-requires-4 : goal.load-requires-4
load-requires-4 c = omega (arith, c.requires, c.width_of.ensures, width_ge c.args.s)

pub returns : goal.returns
returns c =
    let a = c.args in
    record_loads a.s a.vol.now a.at c.width_of.ensures c.load.ensures.0 c.load-2.ensures.0 c.load-3.ensures.0 c.load-4.ensures.0
