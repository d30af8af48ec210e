use Rattle.std.proofs.Common.{◌-◌, ◌≡◌}
use Rattle.recorder.specs.Session.{swept_from, holding}
use Rattle.recorder.proofs.sweep_all.Given as goal

abbrev pub invariant-loop-k : goal.invariant-loop-k
invariant-loop-k l = swept_from l.k (l.n - l.k) (holding l.d l.vol) ≡ swept_from 0 l.n (holding l.initial.d l.initial.vol)
