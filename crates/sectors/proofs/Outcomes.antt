-- No second outcome meets the words of a public function: each theorem is over its own `ensures`.
use mathlib.Core.Path.{refl}
use Rattle.base.specs.Outcome.{OneOutcome}
use Rattle.base.proofs.OutcomeLaws.{agree, ◌∥◌}
use Rattle.sectors.proofs as fn
use Rattle.sectors.specs.contracts as said

pub encrypt : OneOutcome said.encrypt.ended fn.encrypt.Reads.Post
encrypt κs a x y u v p q = (refl, agree p q ∥ refl)

pub decrypt : OneOutcome said.decrypt.ended fn.decrypt.Reads.Post
decrypt κs a x y u v p q = (refl, agree p q ∥ refl)
