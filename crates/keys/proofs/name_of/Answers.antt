use Rattle.words.specs.Le.{le}
use Rattle.keys.proofs.name_of.Goals as goal

pub returns : goal.returns
unfolding le
returns c = rw (c.store-3.ensures, c.store-2.ensures, c.store.ensures, c.from.ensures, c.from-2.ensures)
