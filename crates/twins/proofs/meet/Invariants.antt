use mathlib.Core.Path.{◌≡◌}
use Prim.Native.Nat.{suc, ◌*◌, ◌-◌, ◌<◌}
use Rattle.layout.specs.Shape.{height_of, leaves}
use Rattle.tree.specs.Path.{Rises}
use Rattle.twins.specs.Twins.{agreeing, meeting}
use Rattle.twins.proofs.meet.Given as goal

abbrev pub invariant-loop-above : goal.invariant-loop-above
invariant-loop-above l =
    let left = height_of l.s.n - l._above in
    Rises (suc left) l.i × (l.i < 2 * leaves l.s.n) × (agreeing l.s l.first l.second left l.i ≡ meeting l.s l.first l.second l.n)
