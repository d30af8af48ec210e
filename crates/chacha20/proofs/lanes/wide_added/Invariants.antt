use Rattle.std.proofs.Common.{◌≡◌, ◌++◌, get_or, drop}
use Rattle.base.specs.Lists.{tab}
use Rattle.words.specs.Word.{add32}
use Rattle.chacha20.proofs.lanes.wide_added.Given as goal

abbrev pub invariant-loop-i : goal.invariant-loop-i
invariant-loop-i l = l.x-items ≡ tab l.i (λ n. add32 (get_or l.w n 0) (get_or l.s n 0)) ++ drop l.i l.initial.x-items
