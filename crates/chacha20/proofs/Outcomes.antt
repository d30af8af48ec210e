-- No second outcome meets the words of a public function: each theorem is over its own `ensures`.
use Rattle.std.proofs.Common.{refl}
use Rattle.base.specs.Outcome.{OneOutcome}
use Rattle.base.proofs.OutcomeLaws.{agree, ◌∥◌}
use Rattle.chacha20.proofs as fn
use Rattle.chacha20.specs.contracts as said

pub quarter_round : OneOutcome said.quarter_round.ended fn.quarter_round.Reads.Post
quarter_round κs a x y u v p q = (agree p q, refl)

pub block : OneOutcome said.block.ended fn.block.Reads.Post
block κs a x y u v p q = (agree p q, refl)

pub eight : OneOutcome said.eight.ended fn.eight.Reads.Post
eight κs a x y u v p q = (refl, agree p q ∥ refl)

pub lay : OneOutcome said.lay.ended fn.lay.Reads.Post
lay κs a x y u v p q = (refl, agree p q ∥ refl)

pub lanes_eight_blocks : OneOutcome said.lanes.eight_blocks.ended fn.lanes.eight_blocks.Reads.Post
lanes_eight_blocks κs a x y u v p q = (refl, agree p q ∥ refl)
