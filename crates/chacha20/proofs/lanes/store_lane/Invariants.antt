use Rattle.std.proofs.Common.{◌≡◌, ◌+◌, ◌*◌, get_or}
use lib.Seq.{sets}
use Rattle.base.specs.Lists.{tab}
use Rattle.words.specs.Le.{serialised}
use Rattle.chacha20.proofs.lanes.store_lane.Given as goal

abbrev pub invariant-loop-k : goal.invariant-loop-k
invariant-loop-k l = l.r ≡ sets l.initial.r (64 * l.l) (serialised (tab l.k (λ k. get_or l.x (8 * k + l.l) 0)))
