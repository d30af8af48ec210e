use Rattle.std.proofs.Common.{◌≡◌, refl, ◌∙◌, arith}
use Rattle.base.specs.Lists.{tab}
use Rattle.words.specs.Le.{serialised}
use Rattle.chacha20.specs.Lanes.{lane}
use Rattle.chacha20.proofs.BlockLaws.{serialised-sets}
use Rattle.chacha20.proofs.lanes.store_lane.Goals as goal

pub loop-k-init : goal.loop-k-init
unfolding serialised tab
loop-k-init c = refl

pub loop-k-preserved : goal.loop-k-preserved
loop-k-preserved c = c.store32.ensures ∙ serialised-sets _ _ _ _ c.loop-k.invariant refl

pub returns : goal.returns
unfolding lane
returns c =
    let e : c.loop-k.k ≡ 16 = omega arith in
    c.loop-k.invariant ∙ rw e
