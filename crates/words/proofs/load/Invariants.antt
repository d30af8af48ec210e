use Prim.Native.Nat.{◌≤◌, ◌-◌, ◌+◌}
use mathlib.Core.Path.{◌≡◌}
use lib.ListN.{length}
use Rattle.base.specs.Lists.{part}
use Rattle.words.specs.Le.{num}
use Rattle.words.proofs.load.Given as goal

abbrev pub invariant-loop-b : goal.invariant-loop-b
invariant-loop-b l =
    let left = l.b-iterator.iter.rest.now in
    (length left ≤ l.k) × (left ≡ part l.at (length left) l.s) × (l.r ≡ num (part (l.at + length left) (l.k - length left) l.s))
