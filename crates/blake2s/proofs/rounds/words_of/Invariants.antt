use Rattle.std.proofs.Common.{◌≡◌, ◌*◌, ◌++◌, drop}
use Rattle.base.specs.Lists.{tab, part}
use Rattle.words.specs.Le.{num}
use Rattle.blake2s.proofs.rounds.words_of.Given as goal

abbrev pub invariant-loop-i : goal.invariant-loop-i
invariant-loop-i l = l.x-items ≡ tab l.i (λ j. num (part (4 * j) 4 l.b)) ++ drop l.i l.initial.x-items
