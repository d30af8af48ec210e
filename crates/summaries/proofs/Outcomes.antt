-- No second outcome meets the words of a public function: each theorem is over its own `ensures`.
use Rattle.std.proofs.Common.{refl}
use Rattle.base.specs.Outcome.{OneOutcome}
use Rattle.base.proofs.OutcomeLaws.{agree, ◌∥◌}
use Rattle.summaries.proofs as fn
use Rattle.summaries.specs.contracts as said

pub build : OneOutcome said.build.ended fn.build.Reads.Post
build κs a x y u v p q = (agree p.0 q.0, refl ∥ refl ∥ agree p.1 q.1 ∥ refl)

pub renew : OneOutcome said.renew.ended fn.renew.Reads.Post
renew κs a x y u v p q = (agree p.0 q.0, refl ∥ refl ∥ agree p.1 q.1 ∥ refl)

pub top : OneOutcome said.top.ended fn.top.Reads.Post
top κs a x y u v p q = (agree p q, refl)
