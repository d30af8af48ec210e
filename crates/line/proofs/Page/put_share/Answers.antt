use Rattle.line.proofs.PageLaws.{puts_then}
use Rattle.line.specs.Lines.{share_text}
use Rattle.line.proofs.Page.put_share.Goals as goal

pub returns : goal.returns
unfolding share_text
returns c = puts_then _ _ c.put_number.ensures c.put.ensures
