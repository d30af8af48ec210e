use Rattle.std.proofs.Common.{◌≡◌, ◌/◌, ◌++◌, get_or, drop}
use Rattle.base.specs.Lists.{tab}
use Rattle.chacha20.proofs.lanes.repeat.Given as goal

abbrev pub invariant-loop-i : goal.invariant-loop-i
invariant-loop-i l = l.x-items ≡ tab l.i (λ n. get_or l.s (n / 8) 0) ++ drop l.i l.initial.x-items
