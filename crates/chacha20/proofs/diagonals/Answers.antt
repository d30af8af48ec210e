use Rattle.chacha20.specs.Quads.{diagonals}
use Rattle.chacha20.proofs.diagonals.Goals as goal

pub returns : goal.returns
unfolding diagonals
returns c = rw (c.quarter_round.ensures, c.quarter_round-2.ensures, c.quarter_round-3.ensures, c.quarter_round-4.ensures)
