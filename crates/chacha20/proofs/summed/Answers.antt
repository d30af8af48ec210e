use Rattle.words.specs.Le.{serialised}
use Rattle.std.proofs.Common.{refl, ◌∙◌, arith}
use Rattle.base.specs.Lists.{tab}
use Rattle.chacha20.specs.ChaCha20.{added}
use Rattle.chacha20.proofs.BlockLaws.{serialised_more, serialised-all}
use Rattle.chacha20.proofs.summed.Goals as goal

pub loop-i-init : goal.loop-i-init
unfolding serialised tab
loop-i-init c = (refl, refl)

pub loop-i-preserved : goal.loop-i-preserved
loop-i-preserved c = (
  c.store32.auto.s ∙ c.loop-i.invariant.0,
  c.store32.ensures ∙ serialised_more _ _ _ c.loop-i.invariant.1 refl (omega arith),
)

pub returns : goal.returns
unfolding added
returns c = serialised-all _ _ _ 16 c.loop-i.invariant.1 (omega arith) (omega arith)
