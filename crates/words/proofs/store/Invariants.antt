use Prim.Native.Nat.{◌-◌}
use mathlib.Core.Path.{◌≡◌}
use lib.Seq.{sets}
use Rattle.words.specs.Le.{le}
use Rattle.words.proofs.store.Given as goal

abbrev pub invariant-loop-b : goal.invariant-loop-b
invariant-loop-b l = sets l.b-items l.b-index (le (l.k - l.b-index) l.y) ≡ sets l.initial.b-items 0 (le l.k l.x)
