use Rattle.aes_back.proofs.InvRoundLaws.{Modified}
use Rattle.aes_back.proofs.expand.Given as goal

-- A word a turn, in place.
abbrev pub invariant-loop-i : goal.invariant-loop-i
invariant-loop-i l = Modified l.initial.w l.i l.w
