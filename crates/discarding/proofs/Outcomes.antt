-- No second outcome meets the words of a public function: each theorem is over its own `ensures`.
use mathlib.Core.Path.{refl}
use Rattle.base.specs.Outcome.{OneOutcome}
use Rattle.base.proofs.OutcomeLaws.{agree, ◌∥◌}
use Rattle.discarding.proofs as fn
use Rattle.discarding.specs.contracts as said

pub discard : OneOutcome said.discard.ended fn.discard.Reads.Post
discard κs a x y u v p q = (agree p.0 q.0, refl ∥ agree p.1 q.1 ∥ refl)
