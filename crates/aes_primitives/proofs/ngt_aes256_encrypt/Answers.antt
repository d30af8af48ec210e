-- The words of the key, and the table.
use mathlib.Core.Path.{ap, ◌∙◌}
use mathlib.Core.List.{List}
use Prim.Native.Nat.{ℕ}
use Rattle.aes.specs.Aes.{cipher, aes256}
use Rattle.aes_primitives.proofs.ngt_aes256_encrypt.Goals as goal

pub returns : goal.returns
unfolding aes256
returns c = c.encrypt.ensures ∙ ap (λ (w : List ℕ). cipher w c.args.block.now) c.expand-w.ensures
