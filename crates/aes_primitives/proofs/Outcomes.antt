-- No second outcome meets the words of an exported function: each theorem is over its own `ensures`.
use mathlib.Core.Path.{refl}
use Rattle.base.specs.Outcome.{OneOutcome}
use Rattle.base.proofs.OutcomeLaws.{agree, ◌∥◌}
use Rattle.aes_primitives.proofs as fn
use Rattle.aes_primitives.specs.contracts as said

pub ngt_aes256_encrypt : OneOutcome said.ngt_aes256_encrypt.ended fn.ngt_aes256_encrypt.Reads.Post
ngt_aes256_encrypt κs a x y u v p q = (refl, agree p q ∥ refl)

pub ngt_aes256_decrypt : OneOutcome said.ngt_aes256_decrypt.ended fn.ngt_aes256_decrypt.Reads.Post
ngt_aes256_decrypt κs a x y u v p q = (refl, agree p q ∥ refl)

pub ngt_aes256_ctr : OneOutcome said.ngt_aes256_ctr.ended fn.ngt_aes256_ctr.Reads.Post
ngt_aes256_ctr κs a x y u v p q = (refl, agree p q ∥ refl)
