-- No second outcome meets the words of a public function: each theorem is over its own `ensures`.
use mathlib.Core.Path.{refl}
use Rattle.base.specs.Outcome.{OneOutcome}
use Rattle.base.proofs.OutcomeLaws.{agree}
use Rattle.packed.proofs as fn
use Rattle.packed.specs.contracts as said

pub pack : OneOutcome said.pack.ended fn.pack.Reads.Post
pack κs a x y u v p q = (agree p q, refl)

pub unpack : OneOutcome said.unpack.ended fn.unpack.Reads.Post
unpack κs a x y u v p q = (agree p q, refl)
