use Rattle.std.proofs.Common.{◌≡◌, ◌-◌, length}
use Rattle.heaps.specs.Paths.{stored_down}
use Rattle.summaries.specs.Entries.{put_entry, built}
use Rattle.summaries.proofs.put_all.Given as goal

abbrev pub invariant-loop-i : goal.invariant-loop-i
invariant-loop-i l = (length l.sum ≡ length l.initial.sum) × (stored_down (put_entry l.s l.epoch l.vol) (l.i - 1) l.sum ≡ built l.s l.epoch l.vol l.initial.sum)
