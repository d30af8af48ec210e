use Rattle.drive.specs.Drive.{shape_of}
use Rattle.layout.specs.Shaped.{Shaped}
use lib.ListN.{length}
use Prim.Native.Nat.{◌≤◌}
use mathlib.Core.Path.{◌≡◌}
use Rattle.writing.proofs.StoreLaws.{laid_to}
use Rattle.writing.proofs.lay_span.Given as goal

abbrev pub invariant-loop-n : goal.invariant-loop-n
invariant-loop-n g l =
    (l.n ≤ l.d.n) × Shaped (shape_of l.d) l.vol × (length l.vol ≡ length l.initial.vol) × (l.vol ≡ laid_to l.d l.initial.vol (g.S.Source.offset l.new) (g.S.Source.bytes l.new) l.n)
