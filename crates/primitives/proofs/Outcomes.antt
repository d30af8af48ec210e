-- No second outcome meets the words of a public function: each theorem is over its own `ensures`.
use mathlib.Core.Path.{refl}
use Rattle.base.specs.Outcome.{OneOutcome}
use Rattle.base.proofs.OutcomeLaws.{agree, ◌∥◌}
use Rattle.primitives.proofs as fn
use Rattle.primitives.specs.contracts as said

pub ngt_chacha20 : OneOutcome said.ngt_chacha20.ended fn.ngt_chacha20.Reads.Post
ngt_chacha20 κs a x y u v p q = (refl, agree p q ∥ refl)

pub ngt_poly1305 : OneOutcome said.ngt_poly1305.ended fn.ngt_poly1305.Reads.Post
ngt_poly1305 κs a x y u v p q = (refl, refl ∥ refl ∥ agree p q ∥ refl)

pub ngt_blake2s : OneOutcome said.ngt_blake2s.ended fn.ngt_blake2s.Reads.Post
ngt_blake2s κs a x y u v p q = (refl, refl ∥ agree p q ∥ refl)

pub ngt_blake2s_keyed : OneOutcome said.ngt_blake2s_keyed.ended fn.ngt_blake2s_keyed.Reads.Post
ngt_blake2s_keyed κs a x y u v p q = (refl, refl ∥ refl ∥ agree p q ∥ refl)
