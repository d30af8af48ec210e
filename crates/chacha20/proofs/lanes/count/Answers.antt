use Rattle.std.proofs.Common.{◌≡◌, refl, ◌∙◌, arith}
use Rattle.base.specs.Lists.{tab}
use Rattle.base.proofs.TabLaws.{tab-sets_more}
use Rattle.chacha20.specs.Lanes.{counters}
use Rattle.chacha20.proofs.lanes.count.Goals as goal

pub loop-j-init : goal.loop-j-init
unfolding tab
loop-j-init c = refl

pub loop-j-preserved : goal.loop-j-preserved
loop-j-preserved c = tab-sets_more _ _ _ _ c.loop-j.invariant refl

pub returns : goal.returns
unfolding counters
returns c =
    let e : c.loop-j.j ≡ 8 = omega arith in
    c.loop-j.invariant ∙ rw e
