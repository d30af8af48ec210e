use Rattle.line.proofs.PageLaws.{puts_then, puts_as}
use Rattle.pages.proofs.PageLaws.{nugget_text_lem}
use Rattle.pages.proofs.put_nugget.Goals as goal

pub returns : goal.returns
returns c =
    let a = c.args in
    let fields = puts_then _ _ (puts_then _ _ c.put_field.ensures c.put_key.ensures) (rw c.from.ensures at c.put_field-2.ensures) in
    puts_as _ _ (nugget_text_lem a.d a.r a.n) (puts_then _ _ (puts_then _ _ (puts_then _ _ (puts_then _ _ fields c.put.ensures) c.put_long.ensures) c.put_flakes.ensures) c.put-2.ensures)
