use Rattle.std.proofs.Common.{ap, ◌∙◌, arith}
use Rattle.chacha20.specs.ChaCha20.{double_round}
use Rattle.chacha20.proofs.LaneLaws.{rounded_more, rounded_all}
use Rattle.chacha20.proofs.lanes.wide_round.Goals as goal

pub loop-l-preserved : goal.loop-l-preserved
loop-l-preserved c =
    let x = c.pair in
    let y = c.double_two-x in
    rounded_more _ _ _ _ (omega arith) (y.ensures.0 ∙ ap double_round x.ensures.0) (y.ensures.1 ∙ ap double_round x.ensures.1) c.put.ensures c.loop-l.invariant

pub returns : goal.returns
returns c = rounded_all _ _ _ c.loop-l.invariant (omega arith)
