-- No second outcome meets the words of a public function: each theorem is over its own `ensures`.
use Rattle.std.proofs.Common.{refl}
use Rattle.base.specs.Outcome.{OneOutcome}
use Rattle.base.proofs.OutcomeLaws.{agree}
use Rattle.blake2s.proofs as fn
use Rattle.blake2s.specs.contracts as said

pub start : OneOutcome said.start.ended fn.start.Reads.Post
start κs a x y u v p q = (agree p q, refl)

pub start_keyed : OneOutcome said.start_keyed.ended fn.start_keyed.Reads.Post
start_keyed κs a x y u v p q = (agree p q, refl)

pub absorb : OneOutcome said.absorb.ended fn.absorb.Reads.Post
absorb κs a x y u v p q = (agree p q, refl)

pub finish : OneOutcome said.finish.ended fn.finish.Reads.Post
finish κs a x y u v p q = (agree p q, refl)

pub rounds_compress : OneOutcome said.rounds.compress.ended fn.rounds.compress.Reads.Post
rounds_compress κs a x y u v p q = (agree p q, refl)
