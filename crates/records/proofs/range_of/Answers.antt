use Rattle.records.proofs.MaskLaws.{range_none, range-some}
use mathlib.Core.Path.{sym, ◌∙◌}
use Rattle.records.proofs.range_of.Goals as goal

pub returns-then-count-eq0 : goal.returns-then-count-eq0
returns-then-count-eq0 c = let a = c.args in sym (range_none a.first a.count c.if-count-eq0.true)

pub returns : goal.returns
returns c = let a = c.args in c.range.ensures ∙ range-some a.first a.count c.if-count-eq0.false
