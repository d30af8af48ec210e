use Rattle.std.proofs.Common.{arith, ap, length, ◌≡◌}
use Rattle.line.specs.Decimal.{decimal, long_decimal}
use Rattle.line.proofs.DecimalLaws.{long_decimal_lem}
use Rattle.line.proofs.PutLaws.{decimal-le}
use Rattle.line.proofs.PageLaws.{puts_as}
use Rattle.line.proofs.Page.put_number.Goals as goal

pub put_long-requires : goal.put_long-requires
put_long-requires c =
    let e : long_decimal c.from.result ≡ decimal c.args.n = rw c.from.ensures (long_decimal_lem c.args.n c.ranges.n.fits) in
    omega (arith, c.requires, ap length e, decimal-le c.args.n)

pub returns : goal.returns
returns c = puts_as _ _ (rw c.from.ensures (long_decimal_lem c.args.n c.ranges.n.fits)) c.put_long.ensures
