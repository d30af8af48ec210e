use Rattle.line.proofs.PageLaws.{puts_then}
use Rattle.line.proofs.Page.put_field.Goals as goal

pub returns : goal.returns
returns c = puts_then _ _ c.put.ensures c.put_number.ensures
