use Rattle.reading.specs.Read.{nuggets_up}
use Prim.Native.Nat.{◌-◌}
use mathlib.Core.Path.{◌≡◌}
use Rattle.reading.proofs.test_span.Given as goal

abbrev pub invariant-loop-n : goal.invariant-loop-n
invariant-loop-n l = nuggets_up l.d l.vol l.o l.len (l.end - l.n) l.n ≡ nuggets_up l.d l.vol l.o l.len (l.end - l.first) l.first
