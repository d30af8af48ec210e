use Rattle.base.proofs.TabLaws.{tab-none, tab_more, tab-all}
use Rattle.std.proofs.Common.{arith}
use Rattle.words.specs.Le.{words_of}
use Rattle.chacha20.proofs.load.Goals as goal

pub loop-i-init : goal.loop-i-init
loop-i-init c = tab-none _ _

pub loop-i-preserved : goal.loop-i-preserved
loop-i-preserved c = tab_more _ _ _ c.loop-i.invariant c.load32.ensures (omega arith)

pub returns : goal.returns
unfolding words_of
returns c = tab-all _ _ _ _ c.loop-i.invariant (omega arith) (omega arith)
