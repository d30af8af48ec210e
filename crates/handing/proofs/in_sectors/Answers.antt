use mathlib.Core.Path.{◌∙◌}
use borrow.Author.Tests.{ne_eqb}
use Rattle.handing.proofs.HandLaws.{sectors_by, sectors_not}
use Rattle.handing.proofs.in_sectors.Goals as goal

pub returns-then-whole-eq0 : goal.returns-then-whole-eq0
returns-then-whole-eq0 c =
    let a = c.args in
    sectors_by a.s a.len c.capacity_of-whole.ensures c.if-whole-eq0.true

pub returns-else-whole-eq0 : goal.returns-else-whole-eq0
returns-else-whole-eq0 c =
    let a = c.args in
    ne_eqb _ 0 c.if-whole-eq0.false ∙ sectors_not a.s a.len c.capacity_of-whole.ensures c.if-whole-eq0.false
