use Rattle.relaying.proofs.AnewLaws.{Upto}
use Prim.Native.Nat.{◌-◌, ◌%◌, ◌≤◌}
use mathlib.Core.Path.{◌≡◌}
use lib.ListN.{length}
use Rattle.relaying.proofs.lay_anew.Given as goal

abbrev pub invariant-loop-at : goal.invariant-loop-at
invariant-loop-at l =
    (l.at ≤ length l.initial.stored) × (l.at % 64 ≡ 0) × Upto l.flake.nugget l.flake.lock l.flake.number l.flake.start l.written.offset l.written.bytes.now l.initial.stored l.at l.stored

abbrev pub decreases-loop-at : goal.decreases-loop-at
decreases-loop-at l = length l.initial.stored - l.at
