-- No second outcome meets the words of a public function: each theorem is over its own `ensures`.
use mathlib.Core.Path.{refl}
use Rattle.base.specs.Outcome.{OneOutcome}
use Rattle.base.proofs.OutcomeLaws.{agree, ◌∥◌}
use Rattle.probe.proofs as fn
use Rattle.probe.specs.contracts as said

pub ngt_nugget_key : OneOutcome said.ngt_nugget_key.ended fn.ngt_nugget_key.Reads.Post
ngt_nugget_key κs a x y u v p q = (refl, refl ∥ refl ∥ refl ∥ agree p q ∥ refl)

pub ngt_tag_key : OneOutcome said.ngt_tag_key.ended fn.ngt_tag_key.Reads.Post
ngt_tag_key κs a x y u v p q = (refl, refl ∥ refl ∥ refl ∥ refl ∥ agree p q ∥ refl)

pub ngt_check : OneOutcome said.ngt_check.ended fn.ngt_check.Reads.Post
ngt_check κs a x y u v p q = (refl, refl ∥ refl ∥ refl ∥ agree p q ∥ refl)

pub ngt_seal : OneOutcome said.ngt_seal.ended fn.ngt_seal.Reads.Post
ngt_seal κs a x y u v p q = (refl, refl ∥ refl ∥ refl ∥ agree p q ∥ refl)

pub ngt_tag : OneOutcome said.ngt_tag.ended fn.ngt_tag.Reads.Post
ngt_tag κs a x y u v p q = (refl, refl ∥ refl ∥ refl ∥ refl ∥ refl ∥ refl ∥ agree p q ∥ refl)

pub ngt_named_tag : OneOutcome said.ngt_named_tag.ended fn.ngt_named_tag.Reads.Post
ngt_named_tag κs a x y u v p q = (refl, refl ∥ refl ∥ refl ∥ refl ∥ refl ∥ agree p q ∥ refl)

pub ngt_lay_pad : OneOutcome said.ngt_lay_pad.ended fn.ngt_lay_pad.Reads.Post
ngt_lay_pad κs a x y u v p q = (refl, agree p q ∥ refl)

pub ngt_path : OneOutcome said.ngt_path.ended fn.ngt_path.Reads.Post
ngt_path κs a x y u v p q = (refl, refl ∥ refl ∥ refl ∥ refl ∥ refl ∥ refl ∥ refl ∥ refl ∥ agree p q ∥ refl)

pub ngt_whole : OneOutcome said.ngt_whole.ended fn.ngt_whole.Reads.Post
ngt_whole κs a x y u v p q = (refl, refl ∥ refl ∥ refl ∥ refl ∥ refl ∥ refl ∥ refl ∥ agree p q ∥ refl)

pub ngt_renew : OneOutcome said.ngt_renew.ended fn.ngt_renew.Reads.Post
ngt_renew κs a x y u v p q = (refl, agree p q ∥ refl)

pub ngt_build : OneOutcome said.ngt_build.ended fn.ngt_build.Reads.Post
ngt_build κs a x y u v p q = (refl, agree p q ∥ refl)
