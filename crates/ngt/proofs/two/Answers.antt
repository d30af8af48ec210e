use Rattle.words.specs.Le.{le}
use mathlib.Core.Path.{◌∙◌}
use Rattle.ngt.proofs.two.Goals as goal

pub returns : goal.returns
unfolding le
returns c = c.store-2.ensures ∙ rw (c.store.ensures, c.from.ensures)
