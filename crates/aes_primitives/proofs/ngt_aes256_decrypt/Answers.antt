-- The equivalent inverse cipher is the inverse cipher.
use mathlib.Core.Path.{ap, ◌∙◌}
use mathlib.Core.List.{List}
use Prim.Native.Nat.{ℕ}
use Rattle.aes_back.specs.InvAes.{eq_inv_cipher}
use Rattle.aes_back.proofs.EquivalentLaws.{equivalent_key}
use Rattle.aes_primitives.proofs.ngt_aes256_decrypt.Goals as goal

pub returns : goal.returns
returns c =
    let a = c.args in
    c.decrypt.ensures ∙ ap (λ (dw : List ℕ). eq_inv_cipher dw a.block.now) c.expand-dw.ensures ∙ equivalent_key a.key.now a.block.now
