use Rattle.chacha20.specs.ChaCha20.{block_of}
use Rattle.chacha20.proofs.block.Goals as goal

pub returns : goal.returns
unfolding block_of
returns c = rw (c.block_from.ensures, c.start_state.ensures)
