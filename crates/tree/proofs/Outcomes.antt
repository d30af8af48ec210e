-- No second outcome meets the words of a public function: each theorem is over its own `ensures`.
use mathlib.Core.Path.{refl}
use Rattle.base.specs.Outcome.{OneOutcome}
use Rattle.base.proofs.OutcomeLaws.{agree, ◌∥◌}
use Rattle.tree.proofs as fn
use Rattle.tree.specs.contracts as said

pub path : OneOutcome said.path.ended fn.path.Reads.Post
path κs a x y u v p q = (agree p q, refl)

pub whole : OneOutcome said.whole.ended fn.whole.Reads.Post
whole κs a x y u v p q = (agree p q, refl)

pub renew : OneOutcome said.renew.ended fn.renew.Reads.Post
renew κs a x y u v p q = (refl, agree p q ∥ refl)

pub build : OneOutcome said.build.ended fn.build.Reads.Post
build κs a x y u v p q = (refl, agree p q ∥ refl)
