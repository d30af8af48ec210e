-- No second outcome meets the words of `sweep_all` and `session`: each theorem is over its own `ensures`.
use mathlib.Core.Path.{refl, ap}
use Rattle.base.specs.Outcome.{OneOutcome}
use Rattle.base.proofs.OutcomeLaws.{agree, ◌∥◌}
use Rattle.recorder.specs.Session.{Holding}
use Rattle.recorder.proofs as fn
use Rattle.recorder.specs.contracts as said

pub sweep_all : OneOutcome said.sweep_all.ended fn.sweep_all.Reads.Post
sweep_all κs a x y u v p q = (refl, agree (ap (λ (h : Holding). h.drive) p) (ap (λ (h : Holding). h.drive) q) ∥ agree (ap (λ (h : Holding). h.vol) p) (ap (λ (h : Holding). h.vol) q) ∥ refl)

pub session : OneOutcome said.session.ended fn.session.Reads.Post
session κs a x y u v p q = (agree p.0 q.0, refl ∥ refl ∥ refl ∥ refl ∥ agree p.1.0 q.1.0 ∥ refl ∥ agree p.1.1 q.1.1 ∥ refl)
