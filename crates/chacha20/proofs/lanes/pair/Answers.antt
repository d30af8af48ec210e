use Rattle.std.proofs.Common.{refl, arith}
use Rattle.base.proofs.TabLaws.{tab-none, tab_more, tab-all}
use Rattle.chacha20.specs.Lanes.{lane}
use Rattle.chacha20.proofs.lanes.pair.Goals as goal

pub loop-k-init : goal.loop-k-init
loop-k-init c = (tab-none _ _, tab-none _ _)

pub loop-k-preserved : goal.loop-k-preserved
loop-k-preserved c =
    let s = c.loop-k in (
      tab_more _ _ _ s.invariant.0 refl (omega arith),
      tab_more _ _ _ s.invariant.1 refl (omega arith),
    )

pub returns : goal.returns
unfolding lane
returns c = (tab-all _ _ _ 16 c.loop-k.invariant.0 (omega arith) (omega arith), tab-all _ _ _ 16 c.loop-k.invariant.1 (omega arith) (omega arith))
