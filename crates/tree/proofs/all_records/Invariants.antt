use mathlib.Core.Path.{◌≡◌}
use Prim.Native.Nat.{◌-◌}
use Rattle.tree.specs.Whole.{records_from}
use Rattle.tree.proofs.all_records.Given as goal

abbrev pub invariant-loop-n : goal.invariant-loop-n
invariant-loop-n l = records_from l.s l.gauge l.vol (l.s.n - l.n) l.n ≡ records_from l.s l.gauge l.vol l.s.n 0
