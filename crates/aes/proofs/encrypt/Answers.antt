-- A key, thirteen rounds, the last round.
use mathlib.Core.Path.{◌≡◌, refl, ◌∙◌}
use Prim.Native.Nat.{◌-◌}
use native.Mathlib.Omega.{arith}
use Rattle.words.proofs.LeLaws.{owned_bytes}
use Rattle.aes.specs.Aes.{sub_bytes, shift_rows, rounds, cipher}
use Rattle.aes.proofs.RoundLaws.{rounds_more, cipher_code}
use Rattle.aes.proofs.encrypt.Goals as goal

pub loop-n-init : goal.loop-n-init
unfolding rounds
loop-n-init c = refl

pub loop-n-preserved : goal.loop-n-preserved
loop-n-preserved c =
    let s = c.loop-n in
    rounds_more _ _ s.n s.x _ (omega arith) c.round_key-in-loop-n.ensures c.round-x.ensures s.invariant

pub returns : goal.returns
unfolding cipher
returns c =
    let known = c.well_formed.1.1.0 in
    let block = c.args.block in
    let last : c.loop-n.n - 1 ≡ 13 = omega arith in
    c.bytes.ensures
    ∙ cipher_code (rounds c.args.w.now 13) (λ x. shift_rows (sub_bytes x)) c.args.w.now block 0 14 _ _ _ _ _ _ (record { long = known.1.0.1; bytes = owned_bytes block known.0 known.1.1 })
    c.load.ensures c.round_key.ensures c.add-x.ensures (rw last at c.loop-n.invariant) c.round_key-2.ensures c.last_round.ensures
