use Rattle.std.proofs.Common.{◌≡◌, refl, ap, ◌∙◌, add-one, arith}
use Rattle.chacha20.specs.ChaCha20.{double_round, double_rounds}
use Rattle.chacha20.proofs.twenty_rounds.Goals as goal

pub loop-init : goal.loop-init
unfolding double_rounds
loop-init c = refl

pub loop-preserved : goal.loop-preserved
unfolding double_rounds
loop-preserved c = rw add-one (c.double_round-next.ensures ∙ ap double_round c.loop.invariant)

pub returns : goal.returns
returns c = let e : c.loop.counter ≡ 10 = omega arith in rw e at c.loop.invariant
