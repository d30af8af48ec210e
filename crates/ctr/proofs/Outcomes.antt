-- No second outcome meets the words of a public function: each theorem is over its own `ensures`.
use Rattle.std.proofs.Common.{refl}
use Rattle.base.specs.Outcome.{OneOutcome}
use Rattle.base.proofs.OutcomeLaws.{agree, ◌∥◌}
use Rattle.ctr.proofs as fn
use Rattle.ctr.specs.contracts as said

pub counter_block : OneOutcome said.counter_block.ended fn.counter_block.Reads.Post
counter_block κs a x y u v p q = (agree p q, refl)

pub lay_under : OneOutcome said.lay_under.ended fn.lay_under.Reads.Post
lay_under κs a x y u v p q = (refl, agree p q ∥ refl)

pub lay : OneOutcome said.lay.ended fn.lay.Reads.Post
lay κs a x y u v p q = (refl, agree p q ∥ refl)
