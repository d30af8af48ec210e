-- A key, thirteen rounds, the last round.
use mathlib.Core.Path.{◌∙◌}
use Prim.Native.Nat.{◌+◌, ◌-◌}
use native.Mathlib.Omega.{arith}
use Rattle.words.proofs.LeLaws.{owned_bytes}
use Rattle.aes_back.proofs.InvRoundLaws.{rounds-less, rounds-none}
use Rattle.aes_back.specs.InvAes.{inv_sub_bytes, inv_shift_rows, eq_rounds, eq_inv_cipher}
use Rattle.aes.proofs.RoundLaws.{cipher_code}
use Rattle.aes_back.proofs.decrypt.Goals as goal

pub loop-n-preserved : goal.loop-n-preserved
loop-n-preserved c =
    let s = c.loop-n in
    rounds-less _ _ (14 - s.n) (14 - (s.n + 1)) s.x _ _ (omega arith) c.round_key-in-loop-n.ensures c.round-x.ensures s.invariant

pub returns : goal.returns
unfolding eq_inv_cipher
returns c =
    let known = c.well_formed.1.1.1.0 in
    let block = c.args.block in
    c.bytes.ensures
    ∙ cipher_code (eq_rounds c.args.dw.now 13) (λ x. inv_shift_rows (inv_sub_bytes x)) c.args.dw.now block 14 0 _ _ _ _ _ _ (record { long = known.1.0.1; bytes = owned_bytes block known.0 known.1.1 })
    c.load.ensures c.round_key.ensures c.add-x.ensures (rounds-none _ _ _ (14 - c.loop-n.n) (omega arith) c.loop-n.invariant) c.round_key-2.ensures
    c.last_round.ensures
