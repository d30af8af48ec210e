use Rattle.chacha20.specs.ChaCha20.{quarter}
use Rattle.chacha20.proofs.quarter_round.Goals as goal

pub returns : goal.returns
unfolding quarter
returns c = simp (c.rotate_left-b-2.ensures, c.rotate_left-d-2.ensures, c.rotate_left-b.ensures, c.rotate_left-d.ensures)
