-- No second outcome meets the words of a public function: each theorem is over its own `ensures`.
use mathlib.Core.Path.{refl}
use Rattle.base.specs.Outcome.{OneOutcome}
use Rattle.base.proofs.OutcomeLaws.{agree, ◌∥◌}
use Rattle.opening.proofs as fn
use Rattle.opening.specs.contracts as said

pub head_shape_in : OneOutcome said.head.shape_in.ended fn.head.shape_in.Reads.Post
head_shape_in κs a x y u v p q = (agree p q, refl)

pub head_epoch_in : OneOutcome said.head.epoch_in.ended fn.head.epoch_in.Reads.Post
head_epoch_in κs a x y u v p q = (agree p q, refl)

pub head_state_in : OneOutcome said.head.state_in.ended fn.head.state_in.Reads.Post
head_state_in κs a x y u v p q = (agree p q, refl)

pub head_form : OneOutcome said.head.form.ended fn.head.form.Reads.Post
head_form κs a x y u v p q = (agree p q, refl)

pub format : OneOutcome said.format.ended fn.format.Reads.Post
format κs a x y u v p q = (agree p.0 q.0, agree p.1 q.1 ∥ refl)

pub mount : OneOutcome said.mount.ended fn.mount.Reads.Post
mount κs a x y u v p q = (agree p q, refl)
