-- No second outcome meets the words of a public function: each theorem is over its own `ensures`.
use mathlib.Core.Path.{refl}
use Rattle.base.specs.Outcome.{OneOutcome}
use Rattle.base.proofs.OutcomeLaws.{agree, ◌∥◌}
use Rattle.queues.proofs as fn
use Rattle.queues.specs.contracts as said

pub queue : OneOutcome said.queue.ended fn.queue.Reads.Post
queue κs a x y u v p q = (agree p.0 q.0, refl ∥ agree p.1 q.1 ∥ refl)

pub queue_images : OneOutcome said.queue_images.ended fn.queue_images.Reads.Post
queue_images κs a x y u v p q = (agree p.0 q.0, refl ∥ agree p.1 q.1 ∥ refl)
