-- No second outcome meets the words of a public function: each theorem is over its own `ensures`.
use mathlib.Core.Path.{refl}
use Rattle.base.specs.Outcome.{OneOutcome}
use Rattle.base.proofs.OutcomeLaws.{agree}
use Rattle.totals.proofs as fn
use Rattle.totals.specs.contracts as said

pub nobody : OneOutcome said.nobody.ended fn.nobody.Reads.Post
nobody κs a x y u v p q = (agree p q, refl)

pub joined : OneOutcome said.joined.ended fn.joined.Reads.Post
joined κs a x y u v p q = (agree p q, refl)
