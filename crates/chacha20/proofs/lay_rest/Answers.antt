use Rattle.std.proofs.Common.{◌+◌, ◌-◌, length, min, refl, arith}
use borrow.Rule.Slice.PartMut.{same_len_mid}
use Rattle.chacha20.proofs.LayLaws.{left-none, left_more, left-all}
use Rattle.chacha20.proofs.lay_rest.Goals as goal

pub loop-at-init : goal.loop-at-init
loop-at-init c = left-none _ _ _ _ c.start_state-s.ensures

pub loop-at-preserved : goal.loop-at-preserved
loop-at-preserved c =
    let s = c.loop-at in
    left_more s.d s.at (min 64 (length s.d - s.at)) (c.min-end.result - s.at) s.invariant refl (omega arith) (omega (arith, c.min-end.ensures)) c.block_from.ensures c.xor.ensures

pub returns : goal.returns
returns c = left-all _ _ c.loop-at.invariant (omega arith) (omega arith)

pub returns-2 : goal.returns-2
returns-2 c =
    let s = c.loop-at in
    let n = c.min-end.result - s.at in
    let long = same_len_mid s.at n s.d c.xor.new.d c.xor.auto.d in
    left-all _ (s.at + 64)
    (left_more s.d s.at (min 64 (length s.d - s.at)) n s.invariant refl (omega arith) (omega (arith, c.min-end.ensures)) c.block_from.ensures c.xor.ensures)
    (omega (arith, long)) (omega arith)
