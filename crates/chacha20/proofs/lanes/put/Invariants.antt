use Rattle.chacha20.proofs.LaneLaws.{Part}
use Rattle.chacha20.proofs.lanes.put.Given as goal

abbrev pub invariant-loop-k : goal.invariant-loop-k
invariant-loop-k l = Part l.k l.l l.x.s l.x.t l.initial.w l.w
