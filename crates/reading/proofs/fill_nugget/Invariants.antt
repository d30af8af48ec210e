use Rattle.reading.specs.Read.{byte_in}
use Rattle.reading.proofs.FillLaws.{reached}
use Rattle.base.specs.Lists.{tab}
use lib.ListN.{length, drop}
use mathlib.Core.List.{◌++◌}
use Prim.Native.Nat.{◌+◌, ◌*◌, ◌/◌, ◌≤◌}
use mathlib.Core.Path.{◌≡◌}
use Rattle.reading.proofs.fill_nugget.Given as goal

abbrev pub invariant-loop-f : goal.invariant-loop-f
invariant-loop-f l =
    (l.from / l.size ≤ l.f) × (length l.buf ≡ length l.initial.buf)
    × (l.buf ≡ tab (reached l.from l.end (l.f * l.size)) (λ i. byte_in l.s l.vol l.g (l.from + i)) ++ drop (reached l.from l.end (l.f * l.size)) l.initial.buf)
