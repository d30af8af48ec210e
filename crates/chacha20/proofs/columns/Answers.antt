use Rattle.chacha20.specs.Quads.{columns}
use Rattle.chacha20.proofs.columns.Goals as goal

pub returns : goal.returns
unfolding columns
returns c = rw (c.quarter_round.ensures, c.quarter_round-2.ensures, c.quarter_round-3.ensures, c.quarter_round-4.ensures)
