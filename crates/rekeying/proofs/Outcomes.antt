-- No second outcome meets the words of a public function: each theorem is over its own `ensures`.
use mathlib.Core.Path.{refl}
use Rattle.base.specs.Outcome.{OneOutcome}
use Rattle.base.proofs.OutcomeLaws.{agree, ◌∥◌}
use Rattle.rekeying.proofs as fn
use Rattle.rekeying.specs.contracts as said

pub admit_begin : OneOutcome said.admit.begin.ended fn.admit.begin.Reads.Post
admit_begin κs a x y u v p q = (agree p q, refl)

pub admit_sweep : OneOutcome said.admit.sweep.ended fn.admit.sweep.Reads.Post
admit_sweep κs a x y u v p q = (agree p q, refl)

pub admit_finish : OneOutcome said.admit.finish.ended fn.admit.finish.Reads.Post
admit_finish κs a x y u v p q = (agree p q, refl)

pub begin : OneOutcome said.begin.ended fn.begin.Reads.Post
begin κs a x y u v p q = (agree p.0 q.0, refl ∥ agree p.1 q.1 ∥ refl)

pub sweep : OneOutcome said.sweep.ended fn.sweep.Reads.Post
sweep κs a x y u v p q = (agree p.0 q.0, refl ∥ agree p.1 q.1 ∥ refl)

pub finish : OneOutcome said.finish.ended fn.finish.Reads.Post
finish κs a x y u v p q = (agree p.0 q.0, refl ∥ agree p.1 q.1 ∥ refl)
