use Rattle.ngt.proofs.CallLaws.{lone_row}
use Rattle.ngt.proofs.TwinsLaws.{compared_by}
use mathlib.Core.Path.{◌∙◌}
use Rattle.ngt.proofs.ngt_twins.Goals as goal

pub returns : goal.returns
returns c =
    let a = c.args in
    compared_by a.first.now a.second.now a.nugget a.one.now a.two.now
    c.opened.ensures c.find-t.ensures (c.row.ensures ∙ lone_row _) c.told.ensures.told c.told.ensures.shown
