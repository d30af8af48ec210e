use mathlib.Core.Path.{◌≡◌}
use native.Mathlib.Omega.{arith}
use Rattle.base.proofs.TabLaws.{tab-none, tab_more}
use Rattle.words.specs.Le.{words_of}
use Rattle.aes.proofs.key_words.Goals as goal

pub loop-i-init : goal.loop-i-init
loop-i-init c = tab-none _ _

pub loop-i-preserved : goal.loop-i-preserved
loop-i-preserved c = tab_more _ _ c.loop-i.i c.loop-i.invariant c.load32.ensures (omega arith)

pub returns : goal.returns
unfolding words_of
returns c = let e : c.loop-i.i ≡ 8 = omega arith in rw e at c.loop-i.invariant
