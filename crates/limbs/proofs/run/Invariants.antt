use mathlib.Core.Path.{◌≡◌}
use Prim.Native.Nat.{◌+◌, ◌-◌, ◌*◌, ◌%◌, ◌^◌}
use lib.ListN.{drop}
use Rattle.std.specs.Int.{from_bool}
use Rattle.limbs.specs.Limbs.{value, p}
use Rattle.limbs.specs.Bounds.{Below, steps_by}
use Rattle.limbs.proofs.run.Given as goal

abbrev pub invariant-loop-i : goal.invariant-loop-i
invariant-loop-i l =
    Below (2 ^ 28) l.h
    × (l.i ≡ l.n → Below (2 ^ 26 + 2 ^ 20) l.h)
    × (steps_by (from_bool l.whole * 2 ^ 24) (l.n - l.i) (value l.by.r) (value l.h % p) (drop (16 * l.i) l.m) ≡ steps_by (from_bool l.whole * 2 ^ 24) l.n (value l.by.r) (value l.initial.h % p) l.m)
