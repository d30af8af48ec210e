-- No second outcome meets the words of a public function: each theorem is over its own `ensures`.
use mathlib.Core.Path.{refl}
use Rattle.base.specs.Outcome.{OneOutcome}
use Rattle.base.proofs.OutcomeLaws.{agree}
use Rattle.answers.proofs as fn
use Rattle.answers.specs.contracts as said

pub number : OneOutcome said.number.ended fn.number.Reads.Post
number κs a x y u v p q = (agree p q, refl)

pub carried_by : OneOutcome said.carried_by.ended fn.carried_by.Reads.Post
carried_by κs a x y u v p q = (agree p q, refl)

pub class_of : OneOutcome said.class_of.ended fn.class_of.Reads.Post
class_of κs a x y u v p q = (agree p q, refl)
