use Rattle.totals.specs.Fleet.{Summed}
use Rattle.fleets.specs.Lines.{lines_of, gather_from, gathered_in}
use Rattle.std.specs.Slice.Iter.{split_inclusive_rest}
use mathlib.Core.Path.{◌≡◌}
use Prim.Native.Nat.{◌≤◌}
use Rattle.fleets.proofs.gather.Given as goal

abbrev pub invariant-loop-line : goal.invariant-loop-line
invariant-loop-line l =
    (goal.iterator-loop-line).can_next l.line-iterator
    × (goal.iterator-loop-line).is_finite l.line-iterator
    × (l.fleet.drives ≤ 256)
    × Summed l.fleet
    × (gather_from l.fleet (lines_of (split_inclusive_rest l.line-iterator)) ≡ gathered_in l.input)
