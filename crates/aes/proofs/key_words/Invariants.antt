use mathlib.Core.Path.{◌≡◌}
use mathlib.Core.List.{◌++◌}
use Prim.Native.Nat.{◌*◌}
use lib.ListN.{drop}
use Rattle.base.specs.Lists.{tab, part}
use Rattle.words.specs.Le.{num}
use Rattle.aes.proofs.key_words.Given as goal

-- A word of the key a turn.
abbrev pub invariant-loop-i : goal.invariant-loop-i
invariant-loop-i l = l.w ≡ tab l.i (λ j. num (part (4 * j) 4 l.key)) ++ drop l.i l.initial.w
