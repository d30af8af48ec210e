use Rattle.line.specs.Reading.{field_at}
use lib.ListN.{length, drop}
use mathlib.Core.Path.{◌≡◌}
use Prim.Native.Nat.{◌-◌, ◌≤◌}
use Rattle.standings.proofs.reading.field.Given as goal

abbrev pub invariant-loop-before : goal.invariant-loop-before
invariant-loop-before l = (l.at ≤ length l.line) × (field_at (l.k - l._before) (drop l.at l.line) ≡ field_at l.k l.line)
