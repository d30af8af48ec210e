-- No second outcome meets the words of a public function: each theorem is over its own `ensures`.
use mathlib.Core.Path.{refl}
use Rattle.base.specs.Outcome.{OneOutcome}
use Rattle.base.proofs.OutcomeLaws.{agree, ◌∥◌}
use Rattle.twins.proofs as fn
use Rattle.twins.specs.contracts as said

pub find : OneOutcome said.find.ended fn.find.Reads.Post
find κs a x y u v p q = (agree p.0 q.0, refl ∥ refl ∥ refl ∥ refl ∥ agree p.1 q.1 ∥ agree p.2 q.2 ∥ refl)
