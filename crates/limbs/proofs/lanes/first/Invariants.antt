use Prim.Native.Nat.{ℕ, ◌*◌, ◌<◌}
use Rattle.limbs.specs.Bounds.{Holds}
use Rattle.limbs.specs.Lanes.{lane_of, block_at}
use Rattle.limbs.proofs.lanes.first.Given as goal

abbrev pub invariant-loop-l : goal.invariant-loop-l
invariant-loop-l l = (j : ℕ) → j < l.l → Holds (block_at l.m (16 * j)) (lane_of l.h.limbs j)
