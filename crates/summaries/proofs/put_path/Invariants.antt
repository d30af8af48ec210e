use Rattle.std.proofs.Common.{◌≡◌, ◌-◌, ◌*◌, ◌<◌, length}
use Rattle.heaps.specs.Paths.{Rises, stored_up}
use Rattle.layout.specs.Shape.{leaves}
use Rattle.summaries.specs.Entries.{put_entry, renewed}
use Rattle.summaries.proofs.put_path.Given as goal

abbrev pub invariant-loop-above : goal.invariant-loop-above
invariant-loop-above l =
    Rises (l._above-end - l._above) l.i × (l.i < 2 * leaves l.s.n) × (length l.sum ≡ length l.initial.sum)
    × (stored_up (put_entry l.s l.epoch l.vol) (l._above-end - l._above) l.i l.sum ≡ renewed l.s l.epoch l.vol l.n l.initial.sum)
