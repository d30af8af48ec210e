use Rattle.std.proofs.Common.{rules}
use Rattle.line.proofs.PageLaws.{puts_then, puts_told}
use Rattle.line.proofs.report_line.Goals as goal

pub returns : goal.returns
returns c = puts_told _ (puts_then _ _ c.report_text.ensures c.put.ensures) (λ e. search rules)
