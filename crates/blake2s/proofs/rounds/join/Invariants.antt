use Rattle.std.proofs.Common.{◌≡◌, ◌++◌, drop}
use Rattle.base.specs.Lists.{tab}
use Rattle.blake2s.specs.Compress.{joined_at}
use Rattle.blake2s.proofs.rounds.join.Given as goal

abbrev pub invariant-loop-i : goal.invariant-loop-i
invariant-loop-i l = l.x-items ≡ tab l.i (joined_at l.initial.x-items l.v) ++ drop l.i l.initial.x-items
