use Rattle.std.proofs.Common.{◌≡◌, ◌*◌, ◌++◌, drop}
use Rattle.base.specs.Lists.{part, tab}
use Rattle.words.specs.Le.{num}
use Rattle.chacha20.proofs.load.Given as goal

abbrev pub invariant-loop-i : goal.invariant-loop-i
invariant-loop-i l = l.s ≡ tab l.i (λ j. num (part (4 * j) 4 l.b)) ++ drop l.i l.initial.s
