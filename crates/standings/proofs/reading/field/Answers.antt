use Rattle.std.proofs.Common.{◌∙◌, ap, List, ℕ}
use Rattle.standings.proofs.ReadingLaws.{field-on, field_end, found_le, cut_is}
use Rattle.standings.specs.Standing.{at_most}
use Rattle.line.specs.Reading.{decimal_value}
use Rattle.standings.proofs.reading.field.Goals as goal

pub loop-before-preserved : goal.loop-before-preserved
loop-before-preserved c =
    let t = c.loop-before in
    let x = c.args in
    (c.behind-at.ensures.0, field-on x.line.now x.k t._before t.at c.behind-at.result c.loop-before-test.true c.behind-at.ensures.1 t.invariant.1)

pub slice_bounds-number-end : goal.slice_bounds-number-end
slice_bounds-number-end c = found_le 32 c.args.line.now c.behind-from.result c.behind-from.ensures.0 c.find-end.ensures

pub returns : goal.returns
returns c =
    let t = c.loop-before in
    let x = c.args in
    field_end x.line.now x.k t._before t.at c.behind-from.result c.loop-before-test.false c.behind-from.ensures.1 t.invariant.1
    (c.number.ensures ∙ ap (λ (l : List ℕ). at_most (decimal_value l)) (cut_is x.line.now c.behind-from.result c.find-end.ensures))
