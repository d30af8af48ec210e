-- No second outcome meets the words of a public function: each theorem is over its own `ensures`.
use mathlib.Core.Path.{refl}
use Rattle.base.specs.Outcome.{OneOutcome}
use Rattle.base.proofs.OutcomeLaws.{agree, ◌∥◌}
use Rattle.reading.proofs as fn
use Rattle.reading.specs.contracts as said

pub read : OneOutcome said.read.ended fn.read.Reads.Post
read κs a x y u v p q = (agree p.0 q.0, refl ∥ refl ∥ refl ∥ agree p.1 q.1 ∥ refl)
