-- No second outcome meets the words of a public function: each theorem is over its own `ensures`.
use mathlib.Core.Path.{refl}
use Rattle.base.specs.Outcome.{OneOutcome}
use Rattle.base.proofs.OutcomeLaws.{agree}
use Rattle.aes_back.proofs as fn
use Rattle.aes_back.specs.contracts as said

pub table : OneOutcome said.table.ended fn.table.Reads.Post
table κs a x y u v p q = (agree p q, refl)

pub inv_sbox : OneOutcome said.inv_sbox.ended fn.inv_sbox.Reads.Post
inv_sbox κs a x y u v p q = (agree p q, refl)

pub decrypt : OneOutcome said.decrypt.ended fn.decrypt.Reads.Post
decrypt κs a x y u v p q = (agree p q, refl)

pub expand : OneOutcome said.expand.ended fn.expand.Reads.Post
expand κs a x y u v p q = (agree p q, refl)
