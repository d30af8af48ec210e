use Rattle.std.proofs.Common.{refl, arith, rules}
use Rattle.chacha20.proofs.LaneLaws.{part_more, part-all}
use Rattle.chacha20.proofs.lanes.put.Goals as goal

pub loop-k-preserved : goal.loop-k-preserved
loop-k-preserved c =
    part_more _ _ _ _ _ _ (omega arith) (omega arith) (omega arith) refl refl c.loop-k.invariant

pub returns : goal.returns
returns c = part-all _ _ _ _ _ _ c.loop-k.invariant (omega arith) (search rules) (search rules)
