use Rattle.std.proofs.Common.{◌≡◌, ◌%◌, ◌≤◌}
use Rattle.chacha20.proofs.LayLaws.{Eights}
use Rattle.chacha20.proofs.lay.Given as goal

abbrev pub invariant-loop-at : goal.invariant-loop-at
invariant-loop-at l =
    record {
      in_turns : l.at % 512 ≡ 0;
      within : l.at ≤ l.whole;
      laid : Eights l.key l.nonce l.counter l.initial.d l.s l.at l.d;
    }
