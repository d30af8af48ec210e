use Rattle.blake2s.specs.Stream.{started_keyed}
use Rattle.blake2s.proofs.start_keyed.Goals as goal

pub returns : goal.returns
unfolding started_keyed
returns c = rw (c.first_chain.ensures, c.pad.ensures)
