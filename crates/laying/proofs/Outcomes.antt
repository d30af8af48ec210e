-- No second outcome meets the words of a public function: each theorem is over its own `ensures`.
use mathlib.Core.Path.{refl}
use denote.Param.Laws.{Laws}
use denote.RattleType.{RattleType}
use mir.Syntax.{Dict}
use Rattle.laying.specs.declared.source.Source.{Ghosts}
use Rattle.base.specs.Outcome.{OneOutcome}
use Rattle.base.proofs.OutcomeLaws.{agree, ◌∥◌}
use Rattle.laying.proofs as fn
use Rattle.laying.specs.contracts as said

pub source_WrittenSource_lay_flake : OneOutcome said.source.WrittenSource.lay_flake.ended fn.source.WrittenSource.lay_flake.Reads.Post
source_WrittenSource_lay_flake κs a x y u v p q = (refl, refl ∥ agree p q ∥ refl)

pub flake_lay_flakes : (S : RattleType) (laws : Laws S) (ghosts : Ghosts S.Denot) (dict : Dict) → OneOutcome (said.flake.lay_flakes.ended S ghosts dict) (fn.flake.lay_flakes.Reads.Post S laws ghosts dict)
flake_lay_flakes S laws ghosts dict κs a x y u v p q = (refl, refl ∥ agree p q ∥ refl)

pub lay : (S : RattleType) (laws : Laws S) (ghosts : Ghosts S.Denot) (dict : Dict) → OneOutcome (said.lay.ended S ghosts dict) (fn.lay.Reads.Post S laws ghosts dict)
lay S laws ghosts dict κs a x y u v p q = (refl, refl ∥ agree p q ∥ refl)

pub idle : OneOutcome said.idle.ended fn.idle.Reads.Post
idle κs a x y u v p q = (agree p q, refl)

pub mark : OneOutcome said.mark.ended fn.mark.Reads.Post
mark κs a x y u v p q = (refl, refl ∥ agree p q ∥ refl)

pub tend : OneOutcome said.tend.ended fn.tend.Reads.Post
tend κs a x y u v p q = (refl, agree p q ∥ refl)

pub settle : OneOutcome said.settle.ended fn.settle.Reads.Post
settle κs a x y u v p q = (refl, refl ∥ agree p q ∥ refl)

pub advance : OneOutcome said.advance.ended fn.advance.Reads.Post
advance κs a x y u v p q = (agree p.0 q.0, refl ∥ agree p.1 q.1 ∥ refl)
