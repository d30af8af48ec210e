use lib.ListN.{get_or, drop}
use mathlib.Core.Path.{◌≡◌}
use mathlib.Core.List.{◌++◌}
use lib.Bits.{bit_xor}
use Rattle.base.specs.Lists.{tab}
use Rattle.words.proofs.xor.Given as goal

abbrev pub invariant-loop-i : goal.invariant-loop-i
invariant-loop-i l = l.d ≡ tab l.i (λ j. bit_xor (get_or l.initial.d j 0) (get_or l.k j 0)) ++ drop l.i l.initial.d
