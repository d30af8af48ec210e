use Rattle.std.proofs.Common.{refl, ◌∙◌, arith}
use Rattle.chacha20.specs.Lanes.{lane_blocks}
use Rattle.chacha20.proofs.LaneLaws.{blocks_more, blocks-all}
use Rattle.chacha20.proofs.lanes.store_lanes.Goals as goal

pub loop-l-init : goal.loop-l-init
unfolding lane_blocks
loop-l-init c = refl

pub loop-l-preserved : goal.loop-l-preserved
loop-l-preserved c = c.store_lane.ensures ∙ blocks_more _ _ _ c.loop-l.invariant (omega arith)

pub returns : goal.returns
returns c = blocks-all _ _ _ 8 c.loop-l.invariant (omega arith) (omega arith)
