use Rattle.nuggets.proofs.lock_by.Goals as goal

pub returns : goal.returns
returns c = rw c.nugget_key-key.ensures
