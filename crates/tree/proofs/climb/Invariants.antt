use mathlib.Core.Path.{◌≡◌}
use Prim.Native.Nat.{◌*◌, ◌-◌, ◌<◌}
use Rattle.layout.specs.Shape.{leaves}
use Rattle.tree.specs.Path.{Rises, climbed}
use Rattle.tree.proofs.climb.Given as goal

abbrev pub invariant-loop-above : goal.invariant-loop-above
invariant-loop-above l =
    let left = l.count - l._above in
    Rises left l.i × (l.i < 2 * leaves l.s.n) × (climbed l.s l.vol left l.i ≡ climbed l.s l.vol l.count l.from)
