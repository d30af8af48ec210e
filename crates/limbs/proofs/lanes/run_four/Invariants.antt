use mathlib.Core.Path.{◌≡◌}
use Prim.Native.Nat.{ℕ, ◌*◌, ◌%◌, ◌^◌}
use Rattle.limbs.specs.Limbs.{value, p}
use Rattle.limbs.specs.Bounds.{steps_by}
use Rattle.limbs.specs.Lanes.{weighed, LanesFit}
use Rattle.limbs.proofs.lanes.run_four.Given as goal

abbrev pub invariant-loop-i : goal.invariant-loop-i
invariant-loop-i l =
    LanesFit l.h.limbs
    × ((a : ℕ) → weighed (value l.by.r) l.initial.h.limbs % p ≡ steps_by (2 ^ 24) (4 * 1) (value l.by.r) a l.m → weighed (value l.by.r) l.h.limbs % p ≡ steps_by (2 ^ 24) (4 * l.i) (value l.by.r) a l.m)
