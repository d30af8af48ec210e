use Rattle.opening.specs.Format.{fresh_from}
use lib.ListN.{length}
use Prim.Native.Nat.{◌-◌}
use mathlib.Core.Path.{◌≡◌}
use Rattle.opening.proofs.lay_bare.Given as goal

abbrev pub invariant-loop-n : goal.invariant-loop-n
invariant-loop-n l = (length l.vol ≡ length l.initial.vol) × (fresh_from l.s (l.s.n - l.n) l.n l.vol ≡ fresh_from l.s l.s.n 0 l.initial.vol)
