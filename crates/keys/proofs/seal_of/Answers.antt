use Rattle.keys.specs.Keys.{seal_of}
use Rattle.keys.proofs.seal_of.Goals as goal

pub returns : goal.returns
unfolding seal_of
returns c = c.lettered.ensures
