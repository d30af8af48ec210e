use Rattle.base.specs.Lists.{tab}
use Rattle.words.specs.Le.{words_of}
use Rattle.chacha20.specs.ChaCha20.{start}
use Rattle.chacha20.proofs.start_state.Goals as goal

pub returns : goal.returns
unfolding start words_of tab
returns c = simp (c.load-2.ensures, c.load.ensures)
