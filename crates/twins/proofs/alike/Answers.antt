use mathlib.Core.Path.{◌∙◌}
use Rattle.twins.proofs.StepLaws.{alike_not, alike_if}
use Rattle.twins.proofs.alike.Goals as goal

pub returns-then-equal : goal.returns-then-equal
returns-then-equal c =
    let a = c.args in
    alike_if a.s a.first.now a.second.now a.n (rw (c.record_bytes.ensures, c.record_bytes-2.ensures) at c.equal.ensures) c.if-equal.true
    (rw (c.tag_bytes.ensures, c.tag_bytes-then-equal.ensures) at c.equal-then-equal.ensures)

pub returns-else-equal : goal.returns-else-equal
returns-else-equal c =
    let a = c.args in
    c.if-equal.false
    ∙ alike_not a.s a.first.now a.second.now a.n (rw (c.record_bytes.ensures, c.record_bytes-2.ensures) at c.equal.ensures) c.if-equal.false
