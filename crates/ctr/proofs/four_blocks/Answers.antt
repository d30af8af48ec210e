use Rattle.std.proofs.Common.{◌≡◌, refl, ap, ◌∙◌, append-nil, arith}
use Rattle.aes.specs.Aes.{cipher}
use Rattle.ctr.specs.Ctr.{output_blocks}
use Rattle.ctr.proofs.StreamLaws.{stream_more}
use Rattle.ctr.proofs.four_blocks.Goals as goal

pub loop-i-init : goal.loop-i-init
unfolding output_blocks
loop-i-init c = (refl, refl)

pub loop-i-preserved : goal.loop-i-preserved
loop-i-preserved c =
    let s = c.loop-i in
    let a = c.args in
    let block = c.encrypt.ensures ∙ ap (cipher a.w.now) c.counter_block-block.ensures in
    (c.copy.auto.s ∙ s.invariant.0, c.copy.ensures ∙ stream_more a.w.now a.keycount a.number s.i _ s.invariant.1 block (omega arith))

pub returns : goal.returns
returns c =
    let e : c.loop-i.i ≡ 4 = omega arith in
    rw e at c.loop-i.invariant.1 ∙ append-nil _
