-- No second outcome meets the words of a public function: each theorem is over its own `ensures`.
use mathlib.Core.Path.{refl}
use Rattle.base.specs.Outcome.{OneOutcome}
use Rattle.base.proofs.OutcomeLaws.{agree, ◌∥◌}
use Rattle.fleets.proofs as fn
use Rattle.fleets.specs.contracts as said

pub fleet_line : OneOutcome said.fleet_line.ended fn.fleet_line.Reads.Post
fleet_line κs a x y u v p q = (agree p.behind q.behind, refl ∥ agree p.stored q.stored ∥ refl)

pub fleet_read : OneOutcome said.fleet_read.ended fn.fleet_read.Reads.Post
fleet_read κs a x y u v p q = (agree p.behind q.behind, refl ∥ refl ∥ agree p.stored q.stored ∥ refl)
