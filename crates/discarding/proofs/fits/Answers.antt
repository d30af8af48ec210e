use Rattle.changes.specs.Discard.{range_fits}
use Rattle.base.proofs.PickLaws.{both-on, both_off}
use borrow.Author.Tests.{lt-ltb, le-ltb}
use mathlib.Core.Path.{refl, sym, ◌∙◌}
use Rattle.discarding.proofs.fits.Goals as goal

pub returns-then-freed-d : goal.returns-then-freed-d
unfolding range_fits
returns-then-freed-d c = rw (c.from.ensures, c.from-2.ensures, c.from-then-freed-d.ensures) (sym (both-on (lt-ltb _ _ c.if-freed-d.true) refl))

pub returns-else-freed-d : goal.returns-else-freed-d
unfolding range_fits
returns-else-freed-d c = le-ltb _ _ c.if-freed-d.false ∙ sym (both_off _ (le-ltb _ _ c.if-freed-d.false))
