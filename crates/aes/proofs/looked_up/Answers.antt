-- Four entries, three of them turned.
use Rattle.aes.specs.Code.{looked_up}
use Rattle.aes.proofs.looked_up.Goals as goal

pub returns : goal.returns
unfolding looked_up
returns c = simp (c.rotate_left-s.ensures, c.rotate_left-r.ensures, c.rotate_left-q.ensures)
