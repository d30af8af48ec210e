use mathlib.Core.Path.{◌≡◌}
use Prim.Native.Nat.{◌-◌}
use Rattle.moving.specs.Move.{ascending, held_tests}
use Rattle.moving.proofs.held_pass.Given as goal

abbrev pub invariant-loop-n : goal.invariant-loop-n
invariant-loop-n l = ascending (held_tests l.d l.vol) (l.d.n - l.n) l.n ≡ ascending (held_tests l.d l.vol) l.d.n 0
