use Rattle.nuggets.specs.Tests.{flakes_up, flakes_tested}
use Prim.Native.Nat.{◌-◌}
use mathlib.Core.Path.{◌≡◌}
use Rattle.nuggets.proofs.flakes.Given as goal

abbrev pub invariant-loop-f : goal.invariant-loop-f
invariant-loop-f l = flakes_up l.s l.vol l.g l.mask (l.s.p - l.f) l.f ≡ flakes_tested l.s l.vol l.g l.mask
