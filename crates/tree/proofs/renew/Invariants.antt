use mathlib.Core.Path.{◌≡◌}
use Prim.Native.Nat.{◌*◌, ◌-◌, ◌<◌}
use lib.ListN.{length}
use Rattle.layout.specs.Shape.{leaves}
use Rattle.tree.specs.Path.{Rises}
use Rattle.tree.specs.Renewed.{renewed, stored_up}
use Rattle.layout.specs.Shaped.{Shaped}
use Rattle.tree.proofs.renew.Given as goal

abbrev pub invariant-loop-above : goal.invariant-loop-above
invariant-loop-above l = Rises (l._above-end - l._above) l.i × (l.i < 2 * leaves l.s.n) × Shaped l.s l.vol × (length l.vol ≡ length l.initial.vol) × (stored_up l.s (l._above-end - l._above) l.i l.vol ≡ renewed l.s l.n l.initial.vol)
