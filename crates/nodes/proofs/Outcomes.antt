-- No second outcome meets the words of a public function: each theorem is over its own `ensures`.
use mathlib.Core.Path.{refl}
use Rattle.base.specs.Outcome.{OneOutcome}
use Rattle.base.proofs.OutcomeLaws.{agree, ◌∥◌}
use Rattle.nodes.proofs as fn
use Rattle.nodes.specs.contracts as said

pub good : OneOutcome said.good.ended fn.good.Reads.Post
good κs a x y u v p q = (agree p q, refl)

pub store : OneOutcome said.store.ended fn.store.Reads.Post
store κs a x y u v p q = (refl, agree p q ∥ refl)

pub first : OneOutcome said.first.ended fn.first.Reads.Post
first κs a x y u v p q = (agree p q, refl)
