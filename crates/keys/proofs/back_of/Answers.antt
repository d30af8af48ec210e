use Rattle.words.specs.Le.{le}
use Rattle.keys.proofs.back_of.Goals as goal

pub returns : goal.returns
unfolding le
returns c = rw (c.store-2.ensures, c.store.ensures)
