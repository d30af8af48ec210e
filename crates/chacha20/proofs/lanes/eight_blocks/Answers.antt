use Rattle.std.proofs.Common.{ℕ, List, ap, ◌∙◌, arith}
use Rattle.chacha20.specs.Lanes.{lane_blocks}
use Rattle.chacha20.proofs.LaneLaws.{lanes_blocks}
use Rattle.chacha20.proofs.lanes.eight_blocks.Goals as goal

pub returns : goal.returns
returns c =
    c.store_lanes.ensures
    ∙ ap (λ (x : List ℕ). lane_blocks x 8) c.wide_added-y.ensures
    ∙ lanes_blocks _ _ _ c.spread-w.ensures c.wide_rounds-x.ensures 8 (omega arith)
