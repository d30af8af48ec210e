-- No second outcome meets the words of a public function: each theorem is over its own `ensures`.
use mathlib.Core.Path.{refl}
use Rattle.base.specs.Outcome.{OneOutcome}
use Rattle.base.proofs.OutcomeLaws.{agree}
use Rattle.limbs.proofs as fn
use Rattle.limbs.specs.contracts as said

pub pack : OneOutcome said.pack.ended fn.pack.Reads.Post
pack κs a x y u v p q = (agree p q, refl)

pub blocks : OneOutcome said.blocks.ended fn.blocks.Reads.Post
blocks κs a x y u v p q = (agree p q, refl)

pub last : OneOutcome said.last.ended fn.last.Reads.Post
last κs a x y u v p q = (agree p q, refl)

pub total : OneOutcome said.total.ended fn.total.Reads.Post
total κs a x y u v p q = (agree p q, refl)
