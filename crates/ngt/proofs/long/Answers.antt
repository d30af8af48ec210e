use Rattle.words.specs.Le.{le}
use Rattle.ngt.proofs.long.Goals as goal

pub returns : goal.returns
unfolding le
returns c = c.store.ensures
