use Rattle.line.proofs.PutLaws.{report_joins}
use Rattle.line.proofs.PageLaws.{puts_then, puts_as}
use Rattle.line.proofs.Page.report_text.Goals as goal

pub returns : goal.returns
returns c =
    let x = c.args in
    let fields = puts_then _ _ (puts_then _ _ (puts_then _ _ c.put_field.ensures c.put_field-2.ensures) c.put_field-3.ensures) c.put_field-4.ensures in
    puts_as _ _ (report_joins x.n x.moved x.left x.flakes x.share x.done) (puts_then _ _ (puts_then _ _ (puts_then _ _ fields c.put.ensures) c.put_share.ensures) c.put_field-5.ensures)
