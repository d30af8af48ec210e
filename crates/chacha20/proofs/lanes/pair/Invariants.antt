use Rattle.std.proofs.Common.{◌≡◌, ◌+◌, ◌*◌, ◌++◌, get_or, drop}
use Rattle.base.specs.Lists.{tab}
use Rattle.chacha20.proofs.lanes.pair.Given as goal

abbrev pub invariant-loop-k : goal.invariant-loop-k
invariant-loop-k l =
    (l.s ≡ tab l.k (λ k. get_or l.w (8 * k + l.l) 0) ++ drop l.k l.initial.s) × (l.t ≡ tab l.k (λ k. get_or l.w (8 * k + (4 + l.l)) 0) ++ drop l.k l.initial.t)
