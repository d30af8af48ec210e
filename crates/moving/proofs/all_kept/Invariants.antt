use mathlib.Core.Path.{◌≡◌}
use Prim.Native.Nat.{◌-◌}
use Rattle.moving.specs.Move.{ascending, kept_tests}
use Rattle.moving.proofs.all_kept.Given as goal

abbrev pub invariant-loop-n : goal.invariant-loop-n
invariant-loop-n l = ascending (kept_tests l.s l.vol) (l.s.n - l.n) l.n ≡ ascending (kept_tests l.s l.vol) l.s.n 0
