use lib.ListN.{length, drop}
use Prim.Native.Nat.{◌+◌}
use mathlib.Core.Path.{◌≡◌}
use lib.Seq.{sets}
use Rattle.words.proofs.copy.Given as goal

abbrev pub invariant-loop-i : goal.invariant-loop-i
invariant-loop-i l = (length l.s ≡ length l.initial.s) × (sets l.s (l.at + l.i) (drop l.i l.from) ≡ sets l.initial.s l.at l.from)
