use mathlib.Core.Path.{◌≡◌}
use Prim.Native.Nat.{◌-◌}
use lib.ListN.{length}
use Rattle.tree.specs.Renewed.{built, stored_down}
use Rattle.layout.specs.Shaped.{Shaped}
use Rattle.tree.proofs.build.Given as goal

abbrev pub invariant-loop-i : goal.invariant-loop-i
invariant-loop-i l = Shaped l.s l.vol × (length l.vol ≡ length l.initial.vol) × (stored_down l.s (l.i - 1) l.vol ≡ built l.s l.initial.vol)
