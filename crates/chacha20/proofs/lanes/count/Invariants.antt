use Rattle.std.proofs.Common.{◌≡◌}
use lib.Seq.{sets}
use Rattle.base.specs.Lists.{tab}
use Rattle.words.specs.Word.{add32}
use Rattle.chacha20.proofs.lanes.count.Given as goal

abbrev pub invariant-loop-j : goal.invariant-loop-j
invariant-loop-j l = l.w ≡ sets l.initial.w 96 (tab l.j (λ j. add32 l.c j))
