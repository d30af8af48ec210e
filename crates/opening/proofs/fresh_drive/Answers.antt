use Rattle.opening.specs.Format.{fresh_drive}
use Rattle.opening.proofs.fresh_drive.Goals as goal

pub returns : goal.returns
unfolding fresh_drive
returns c = rw (c.first.ensures, c.requires.1)
