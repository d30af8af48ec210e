-- No second outcome meets the words of a public function: each theorem is over its own `ensures`.
use mathlib.Core.Path.{refl}
use Rattle.base.specs.Outcome.{OneOutcome}
use Rattle.base.proofs.OutcomeLaws.{agree, ◌∥◌}
use Rattle.relaying.proofs as fn
use Rattle.relaying.specs.contracts as said

pub lay_anew : OneOutcome said.lay_anew.ended fn.lay_anew.Reads.Post
lay_anew κs a x y u v p q = (agree p.0 q.0, agree p.1 q.1 ∥ refl)
