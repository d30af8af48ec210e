use Rattle.std.proofs.Common.{◌≡◌, ◌*◌, ◌++◌, drop}
use Rattle.chacha20.specs.Lanes.{lane_blocks}
use Rattle.chacha20.proofs.lanes.store_lanes.Given as goal

abbrev pub invariant-loop-l : goal.invariant-loop-l
invariant-loop-l l = l.r ≡ lane_blocks l.x l.l ++ drop (64 * l.l) l.initial.r
