-- No second outcome meets the words of a public function: each theorem is over its own `ensures`.
use mathlib.Core.Path.{refl}
use denote.Param.Laws.{Laws}
use denote.RattleType.{RattleType}
use mir.Syntax.{Dict}
use Rattle.laying.specs.declared.source.Source.{Ghosts}
use Rattle.base.specs.Outcome.{OneOutcome}
use Rattle.base.proofs.OutcomeLaws.{agree, ◌∥◌}
use Rattle.writing.proofs as fn
use Rattle.writing.specs.contracts as said

pub way_at : OneOutcome said.way_at.ended fn.way_at.Reads.Post
way_at κs a x y u v p q = (agree p q, refl)

pub admit : OneOutcome said.admit.ended fn.admit.Reads.Post
admit κs a x y u v p q = (agree p q, refl)

pub mark_span : OneOutcome said.mark_span.ended fn.mark_span.Reads.Post
mark_span κs a x y u v p q = (refl, refl ∥ agree p q ∥ refl)

pub tend_span : OneOutcome said.tend_span.ended fn.tend_span.Reads.Post
tend_span κs a x y u v p q = (refl, refl ∥ agree p q ∥ refl)

pub store : (S : RattleType) (laws : Laws S) (ghosts : Ghosts S.Denot) (dict : Dict) → OneOutcome (said.store.ended S ghosts dict) (fn.store.Reads.Post S laws ghosts dict)
store S laws ghosts dict κs a x y u v p q = (agree p.0 q.0, refl ∥ agree p.1 q.1 ∥ refl)

pub write : OneOutcome said.write.ended fn.write.Reads.Post
write κs a x y u v p q = (agree p.0 q.0, refl ∥ agree p.1 q.1 ∥ refl)
