use Rattle.drive.specs.Head.{numbers_of}
use Rattle.words.specs.Le.{le}
use mathlib.Core.Path.{◌∙◌}
use Rattle.drive.proofs.numbers_of.Goals as goal

pub returns : goal.returns
unfolding numbers_of le
returns c = c.store-7.ensures ∙ rw (c.store-6.ensures, c.store-5.ensures, c.store-4.ensures, c.store-3.ensures, c.store-2.ensures, c.store.ensures, c.from.ensures, c.from-2.ensures, c.from-3.ensures, c.from-4.ensures, c.from-5.ensures, c.from-6.ensures)
