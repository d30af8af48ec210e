use mathlib.Core.Path.{◌∙◌}
use borrow.Author.Tests.{lt-leb}
use Rattle.nuggets.proofs.TouchLaws.{fits_is, fits_not}
use Rattle.nuggets.proofs.fits.Goals as goal

pub returns-then-len-size : goal.returns-then-len-size
returns-then-len-size c = fits_is c.args.s c.args.offset c.args.len _ c.capacity_of-size.ensures c.if-len-size.true

pub returns-else-len-size : goal.returns-else-len-size
returns-else-len-size c =
    lt-leb _ _ c.if-len-size.false ∙ fits_not c.args.s c.args.offset c.args.len _ c.capacity_of-size.ensures c.if-len-size.false
