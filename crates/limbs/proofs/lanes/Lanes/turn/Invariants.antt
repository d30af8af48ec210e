use mathlib.Core.Path.{◌≡◌}
use Prim.Native.Nat.{ℕ, ◌+◌, ◌*◌, ◌<◌, ◌≤◌}
use Rattle.limbs.specs.Limbs.{value}
use Rattle.limbs.specs.Bounds.{Stands}
use Rattle.limbs.specs.Lanes.{lane_of, block_at}
use Rattle.limbs.proofs.lanes.Lanes.turn.Given as goal

abbrev pub invariant-loop-l : goal.invariant-loop-l
invariant-loop-l l =
    ((j : ℕ) → j < l.l → Stands (value (lane_of l.initial.self.limbs j) * value (lane_of l.q.limbs j) + block_at l.m (l.at + 16 * j)) (lane_of l.self.limbs j))
    × ((j : ℕ) → l.l ≤ j → j < 4 → lane_of l.self.limbs j ≡ lane_of l.initial.self.limbs j)
