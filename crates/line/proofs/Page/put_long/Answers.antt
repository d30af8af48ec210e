use Rattle.std.proofs.Common.{arith, ap, ◌∙◌, length}
use Rattle.line.proofs.DecimalLaws.{decimal_is}
use Rattle.line.proofs.PageLaws.{puts_as}
use Rattle.line.proofs.Page.put_long.Goals as goal

pub put-requires : goal.put-requires
put-requires c = omega (arith, c.requires, ap length (c.as_bytes.ensures.value ∙ c.format.ensures.text ∙ decimal_is c.args.n c.ranges.n.fits))

pub returns : goal.returns
returns c = puts_as _ _ (c.as_bytes.ensures.value ∙ c.format.ensures.text ∙ decimal_is c.args.n c.ranges.n.fits) c.put.ensures
