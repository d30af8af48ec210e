use Rattle.line.proofs.PageLaws.{puts_then}
use Rattle.pages.proofs.put_counter.Goals as goal

pub returns : goal.returns
returns c = puts_then _ _ (puts_then _ _ c.put.ensures c.put_long.ensures) c.put-2.ensures
