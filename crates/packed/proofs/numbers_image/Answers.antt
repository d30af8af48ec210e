use Rattle.packed.specs.Image.{numbers_image}
use Rattle.words.specs.Le.{le}
use mathlib.Core.Path.{◌∙◌}
use Rattle.packed.proofs.numbers_image.Goals as goal

pub returns : goal.returns
unfolding numbers_image le
returns c = c.store-8.ensures ∙ rw (c.store-7.ensures, c.store-6.ensures, c.store-5.ensures, c.store-4.ensures, c.store-3.ensures, c.store-2.ensures, c.store.ensures, c.from.ensures, c.from-2.ensures, c.from-3.ensures, c.from-4.ensures, c.from-5.ensures, c.from-6.ensures, c.from-7.ensures, c.from-8.ensures)
