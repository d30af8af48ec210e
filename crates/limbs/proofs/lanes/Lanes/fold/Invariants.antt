use mathlib.Core.Path.{◌≡◌}
use Prim.Native.Nat.{◌+◌, ◌%◌, ◌^◌}
use Rattle.limbs.specs.Limbs.{value, p}
use Rattle.limbs.specs.Bounds.{Below}
use Rattle.limbs.proofs.GroupLaws.{gathered}
use Rattle.limbs.proofs.lanes.Lanes.fold.Given as goal

abbrev pub invariant-loop-l : goal.invariant-loop-l
invariant-loop-l l = Below (2 ^ 26 + 2 ^ 20) l.x × (value l.x % p ≡ gathered (value l.by.r) l.self.limbs l.l)
