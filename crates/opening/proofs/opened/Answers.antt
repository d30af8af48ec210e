use Rattle.opening.specs.Mount.{opened_drive}
use Rattle.opening.proofs.opened.Goals as goal

pub returns : goal.returns
unfolding opened_drive
returns c = rw (c.load.ensures.0, c.epoch_in.ensures, c.kept_old.ensures, c.state_in-state.ensures, c.taken.ensures, c.first.ensures, c.shape_in-s.ensures)
