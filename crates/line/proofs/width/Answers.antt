use Rattle.std.proofs.Common.{rules}
use Rattle.line.proofs.DecimalLaws.{width_power, width-last}
use Rattle.line.proofs.width.Goals as goal

pub returns : goal.returns
returns c = search (rules, width_power, width-last)
