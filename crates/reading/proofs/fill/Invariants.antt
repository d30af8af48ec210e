use Rattle.nuggets.specs.Nugget.{byte_of}
use Rattle.reading.proofs.FillLaws.{reached}
use Rattle.base.specs.Lists.{tab}
use lib.ListN.{length, drop}
use mathlib.Core.List.{◌++◌}
use Prim.Native.Nat.{◌+◌, ◌*◌, ◌/◌, ◌≤◌}
use mathlib.Core.Path.{◌≡◌}
use Rattle.reading.proofs.fill.Given as goal

abbrev pub invariant-loop-n : goal.invariant-loop-n
invariant-loop-n l =
    (l.o / l.whole ≤ l.n) × (length l.buf ≡ length l.initial.buf)
    × (l.buf ≡ tab (reached l.o l.end (l.n * l.whole)) (λ i. byte_of l.d l.vol (l.o + i)) ++ drop (reached l.o l.end (l.n * l.whole)) l.initial.buf)
