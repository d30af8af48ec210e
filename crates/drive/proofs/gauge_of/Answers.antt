use Rattle.drive.proofs.gauge_of.Goals as goal

pub returns : goal.returns
returns c = rw c.is_changing.ensures
