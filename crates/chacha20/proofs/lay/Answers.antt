use Rattle.std.proofs.Common.{◌≡◌, ◌+◌, ◌-◌, ◌/◌, ◌*◌, length, refl, arith}
use Rattle.chacha20.proofs.LayLaws.{Eights, eights-none, eights_more, eights-rest}
use Rattle.chacha20.proofs.lay.Goals as goal
use Rattle.chacha20.proofs.lay.Goals.{else-loop-at-test, then-loop-at-test+else-whole-at-gt512}

pub loop-at-init : goal.loop-at-init
loop-at-init c =
    record {
      in_turns = refl;
      within = omega arith;
      laid = eights-none _ _ _ _ c.start_state-s.ensures;
    }

pub loop-at-preserved : goal.loop-at-preserved
loop-at-preserved c =
    let s = c.loop-at in
    record {
      in_turns = omega arith;
      within = omega arith;
      laid = eights_more s.d s.at (s.at + 512 - s.at) s.invariant.laid (omega arith) (omega arith) c.eight_blocks.ensures c.xor.ensures;
    }

pub returns : goal.returns
returns c =
    let a = c.args in
    let s = c.loop-at in
    let t = c.loop-at-test in
    let whole = length a.d.now / 512 * 512 in
    let laid : Eights a.key a.nonce a.counter a.d.now t.s whole t.d =
    elim t.branch [
      | else-loop-at-test w ↦
          let e : whole ≡ s.at = omega arith in
          rw (w.d-is, w.s-is, e) s.invariant.laid
      | then-loop-at-test+else-whole-at-gt512 w ↦
          let e : whole ≡ s.at + 512 = omega arith in
          rw (w.d-is, w.s-is, e) (eights_more s.d s.at (s.at + 512 - s.at) s.invariant.laid (omega arith) (omega arith) w.eight_blocks.ensures w.xor.ensures)
    ] in
    eights-rest t.d whole (length t.d - whole) laid refl c.lay_rest.ensures
