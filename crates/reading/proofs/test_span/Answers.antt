use Rattle.reading.proofs.AnswerLaws.{tested, span_on, span_off, span_end}
use Rattle.answers.specs.Numbers.{accepts}
use Rattle.answers.proofs.StageLaws.{handed}
use mathlib.Core.Path.{◌∙◌, ap}
use Rattle.reading.proofs.test_span.Goals as goal

pub loop-n-preserved : goal.loop-n-preserved
loop-n-preserved c =
    let a = c.args in
    let l = c.loop-n in
    span_on a.d a.vol.now a.o a.len a.end l.n c.loop-n-test.true (tested a.d a.vol.now a.o a.len l.n c.shape_of.ensures c.touched-t.ensures c.test_read.ensures) (ap accepts c.in_ok-test_read.was) ∙ l.invariant

pub returns-in_err-test_read : goal.returns-in_err-test_read
returns-in_err-test_read c =
    let a = c.args in
    let l = c.loop-n in
    handed _ _ _ c.from_residual.ensures.1 c.in_err-test_read.was
    ∙ span_off a.d a.vol.now a.o a.len a.end l.n c.loop-n-test.true (tested a.d a.vol.now a.o a.len l.n c.shape_of.ensures c.touched-t.ensures c.test_read.ensures) (ap accepts c.in_err-test_read.was)
    ∙ l.invariant

pub returns : goal.returns
returns c = let a = c.args in let l = c.loop-n in span_end a.d a.vol.now a.o a.len a.end l.n c.loop-n-test.false ∙ l.invariant
