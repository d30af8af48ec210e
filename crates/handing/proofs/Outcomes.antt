-- No second outcome meets the words of a public function: each theorem is over its own `ensures`.
use mathlib.Core.Path.{refl}
use Rattle.base.specs.Outcome.{OneOutcome}
use Rattle.base.proofs.OutcomeLaws.{agree, ◌∥◌}
use Rattle.handing.proofs as fn
use Rattle.handing.specs.contracts as said

pub admit : OneOutcome said.admit.ended fn.admit.Reads.Post
admit κs a x y u v p q = (agree p q, refl)

pub export : OneOutcome said.export.ended fn.export.Reads.Post
export κs a x y u v p q = (agree p.0 q.0, refl ∥ refl ∥ refl ∥ refl ∥ agree p.1 q.1 ∥ refl)
