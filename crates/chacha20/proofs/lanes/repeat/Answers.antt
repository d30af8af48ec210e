use Rattle.std.proofs.Common.{refl, arith}
use Rattle.base.proofs.TabLaws.{tab-none, tab_more, tab-all}
use Rattle.chacha20.specs.Lanes.{repeated}
use Rattle.chacha20.proofs.lanes.repeat.Goals as goal

pub loop-i-init : goal.loop-i-init
loop-i-init c = tab-none _ _

pub loop-i-preserved : goal.loop-i-preserved
loop-i-preserved c = tab_more _ _ _ c.loop-i.invariant refl (omega arith)

pub returns : goal.returns
unfolding repeated
returns c = tab-all _ _ _ 128 c.loop-i.invariant (omega arith) (omega arith)
