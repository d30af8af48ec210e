use mathlib.Core.Path.{◌≡◌}
use Prim.Native.Nat.{ℕ, ◌<◌}
use Rattle.limbs.specs.Lanes.{lane_of}
use Rattle.limbs.proofs.lanes.Lanes.level.Given as goal

abbrev pub invariant-loop-l : goal.invariant-loop-l
invariant-loop-l l = (j : ℕ) → j < l.l → lane_of l.h.limbs j ≡ l.x
