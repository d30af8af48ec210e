use Rattle.line.proofs.PageLaws.{puts_then}
use Rattle.pages.specs.Page.{present_flakes}
use Rattle.pages.proofs.PageLaws.{flakes-none, flakes-some}
use Rattle.pages.proofs.put_flakes.Goals as goal

pub returns-then-page-start : goal.returns-then-page-start
returns-then-page-start c =
    let a = c.args in
    puts_then _ _ c.put.ensures (flakes-none (present_flakes a.p a.journal) c.put_with_signs.ensures c.if-page-start.true c.put-then-page-start.ensures)

pub returns-else-page-start : goal.returns-else-page-start
returns-else-page-start c =
    let a = c.args in
    puts_then _ _ c.put.ensures (flakes-some (present_flakes a.p a.journal) c.put_with_signs.ensures c.if-page-start.false)
