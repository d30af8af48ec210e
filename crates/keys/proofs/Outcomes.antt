-- No second outcome meets the words of a public function: each theorem is over its own `ensures`.
use mathlib.Core.Path.{refl}
use Rattle.base.specs.Outcome.{OneOutcome}
use Rattle.base.proofs.OutcomeLaws.{agree, ◌∥◌}
use Rattle.keys.proofs as fn
use Rattle.keys.specs.contracts as said

pub nugget_key : OneOutcome said.nugget_key.ended fn.nugget_key.Reads.Post
nugget_key κs a x y u v p q = (agree p q, refl)

pub tag_key : OneOutcome said.tag_key.ended fn.tag_key.Reads.Post
tag_key κs a x y u v p q = (agree p q, refl)

pub check_of : OneOutcome said.check_of.ended fn.check_of.Reads.Post
check_of κs a x y u v p q = (agree p q, refl)

pub seal_of : OneOutcome said.seal_of.ended fn.seal_of.Reads.Post
seal_of κs a x y u v p q = (agree p q, refl)

pub lay_from : OneOutcome said.lay_from.ended fn.lay_from.Reads.Post
lay_from κs a x y u v p q = (refl, agree p q ∥ refl)

pub pad_from : OneOutcome said.pad_from.ended fn.pad_from.Reads.Post
pad_from κs a x y u v p q = (refl, agree p q ∥ refl)

pub tag_laid_out : OneOutcome said.tag_laid_out.ended fn.tag_laid_out.Reads.Post
tag_laid_out κs a x y u v p q = (agree p q, refl)

pub name_of : OneOutcome said.name_of.ended fn.name_of.Reads.Post
name_of κs a x y u v p q = (agree p q, refl)

pub tag_of : OneOutcome said.tag_of.ended fn.tag_of.Reads.Post
tag_of κs a x y u v p q = (agree p q, refl)
