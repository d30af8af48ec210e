use Rattle.std.proofs.Common.{rules}
use Rattle.line.proofs.PageLaws.{puts_then, puts_as, puts_told}
use Rattle.fleets.proofs.LineLaws.{open_joins}
use Rattle.fleets.proofs.put_open.Goals as goal

pub returns : goal.returns
returns c = puts_told _ (puts_as _ _ (open_joins c.args.line) (puts_then _ _ c.put_field.ensures c.put.ensures)) (λ e. search rules)
