-- No second outcome meets the words of a public function: each theorem is over its own `ensures`.
use mathlib.Core.Path.{refl}
use Rattle.base.specs.Outcome.{OneOutcome}
use Rattle.base.proofs.OutcomeLaws.{agree}
use Rattle.aes.proofs as fn
use Rattle.aes.specs.contracts as said

pub load : OneOutcome said.load.ended fn.load.Reads.Post
load κs a x y u v p q = (agree p q, refl)

pub bytes : OneOutcome said.bytes.ended fn.bytes.Reads.Post
bytes κs a x y u v p q = (agree p q, refl)

pub add : OneOutcome said.add.ended fn.add.Reads.Post
add κs a x y u v p q = (agree p q, refl)

pub round_key : OneOutcome said.round_key.ended fn.round_key.Reads.Post
round_key κs a x y u v p q = (agree p q, refl)

pub table : OneOutcome said.table.ended fn.table.Reads.Post
table κs a x y u v p q = (agree p q, refl)

pub looked_up : OneOutcome said.looked_up.ended fn.looked_up.Reads.Post
looked_up κs a x y u v p q = (agree p q, refl)

pub encrypt : OneOutcome said.encrypt.ended fn.encrypt.Reads.Post
encrypt κs a x y u v p q = (agree p q, refl)

pub sub_word : OneOutcome said.sub_word.ended fn.sub_word.Reads.Post
sub_word κs a x y u v p q = (agree p q, refl)

pub expand : OneOutcome said.expand.ended fn.expand.Reads.Post
expand κs a x y u v p q = (agree p q, refl)
