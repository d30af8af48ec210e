use Rattle.std.proofs.Common.{◌+◌, ◌-◌, length, min, refl, ◌∙◌, arith}
use borrow.Rule.Slice.PartMut.{same_len_mid}
use Rattle.streams.proofs.LayLaws.{left-none, left_more, left-all}
use Rattle.ctr.proofs.StreamLaws.{piece, onward, long-piece, laid_is}
use Rattle.ctr.proofs.lay_under.Goals as goal

pub loop-at-init : goal.loop-at-init
loop-at-init c = left-none _ _ _ _ _

pub loop-at-preserved : goal.loop-at-preserved
loop-at-preserved c =
    let s = c.loop-at in
    let a = c.args in
    left_more (piece a.w.now a.keycount) (onward a.w.now a.keycount) (long-piece a.w.now a.keycount) s.d s.n s.at (min 64 (length s.d - s.at)) (c.min-end.result - s.at)
    s.invariant refl (omega arith) (omega (arith, c.min-end.ensures)) c.four_blocks.ensures c.xor.ensures refl

pub returns : goal.returns
returns c =
    let s = c.loop-at in
    let a = c.args in
    left-all (piece a.w.now a.keycount) (onward a.w.now a.keycount) (long-piece a.w.now a.keycount) s.d s.n s.at s.invariant (omega arith)
    ∙ laid_is a.w.now a.keycount a.number a.d.now

pub returns-2 : goal.returns-2
returns-2 c =
    let s = c.loop-at in
    let a = c.args in
    let m = c.min-end.result - s.at in
    let long = same_len_mid s.at m s.d c.xor.new.d c.xor.auto.d in
    left-all (piece a.w.now a.keycount) (onward a.w.now a.keycount) (long-piece a.w.now a.keycount) _ _ (s.at + 64)
    (left_more (piece a.w.now a.keycount) (onward a.w.now a.keycount) (long-piece a.w.now a.keycount) s.d s.n s.at (min 64 (length s.d - s.at)) m
    s.invariant refl (omega arith) (omega (arith, c.min-end.ensures)) c.four_blocks.ensures c.xor.ensures refl)
    (omega (arith, long))
    ∙ laid_is a.w.now a.keycount a.number a.d.now
