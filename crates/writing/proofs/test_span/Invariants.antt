use Prim.Native.Nat.{◌≤◌}
use Rattle.changes.specs.Change.{tested_to}
use Rattle.changes.specs.Write.{write_way}
use Rattle.answers.specs.Answer as A
use mathlib.Core.Path.{◌≡◌}
use Rattle.writing.proofs.test_span.Given as goal

abbrev pub invariant-loop-n : goal.invariant-loop-n
invariant-loop-n l = (l.n ≤ l.d.n) × (tested_to l.d l.vol (write_way l.d l.vol l.o l.len) l.n ≡ A.Accepted)
