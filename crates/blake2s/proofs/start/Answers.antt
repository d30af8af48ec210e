use Rattle.blake2s.specs.Stream.{started}
use Rattle.blake2s.proofs.start.Goals as goal

pub returns : goal.returns
unfolding started
returns c = rw c.first_chain.ensures
