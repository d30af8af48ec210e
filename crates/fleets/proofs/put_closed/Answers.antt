use Rattle.std.proofs.Common.{rules}
use Rattle.line.proofs.PageLaws.{puts_then, puts_as, puts_told}
use Rattle.fleets.proofs.LineLaws.{closed_joins}
use Rattle.fleets.proofs.put_closed.Goals as goal

pub returns : goal.returns
returns c =
    let all = puts_then _ _ (puts_then _ _ (puts_then _ _ (puts_then _ _ c.put_field.ensures c.put.ensures) c.put_standing.ensures) c.put_field-2.ensures) c.put-2.ensures in
    puts_told _ (puts_as _ _ (closed_joins c.args.f) all) (λ e. search rules)
