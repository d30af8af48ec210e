-- No second outcome meets the words of a public function: each theorem is over its own `ensures`.
use mathlib.Core.Path.{refl}
use Rattle.base.specs.Outcome.{OneOutcome}
use Rattle.base.proofs.OutcomeLaws.{agree, ◌∥◌}
use Rattle.moving.proofs as fn
use Rattle.moving.specs.contracts as said

pub carry_over : OneOutcome said.carry.over.ended fn.carry.over.Reads.Post
carry_over κs a x y u v p q = (refl, refl ∥ refl ∥ agree p q ∥ refl)

pub up : OneOutcome said.up.ended fn.up.Reads.Post
up κs a x y u v p q = (agree p.0 q.0, refl ∥ refl ∥ agree p.1 q.1 ∥ refl)

pub down : OneOutcome said.down.ended fn.down.Reads.Post
down κs a x y u v p q = (agree p.0 q.0, refl ∥ refl ∥ agree p.1 q.1 ∥ refl)
