use Rattle.chacha20.proofs.LaneLaws.{Rounded}
use Rattle.chacha20.proofs.lanes.wide_round.Given as goal

abbrev pub invariant-loop-l : goal.invariant-loop-l
invariant-loop-l l = Rounded l.l l.initial.w l.w
