use Rattle.chacha20.specs.ChaCha20.{block_from}
use Rattle.chacha20.proofs.block_from.Goals as goal

pub returns : goal.returns
unfolding block_from
returns c = rw (c.summed.ensures, c.twenty_rounds.ensures)
