use Rattle.writing.proofs.AnswerLaws.{span_start, span_turn, span_off, span_end}
use Rattle.nuggets.proofs.SpanLaws.{inside, span_of-drive, span_few}
use Rattle.answers.specs.Numbers.{accepts}
use Rattle.answers.proofs.StageLaws.{handed}
use Rattle.nuggets.specs.declared.Span.{Span}
use Rattle.drive.specs.Drive.{shape_of}
use native.Mathlib.Omega.{arith}
use mathlib.Core.Path.{◌∙◌, ap}
use Rattle.writing.proofs.test_span.Goals as goal

pub loop-n-init : goal.loop-n-init
loop-n-init c =
    let a = c.args in
    let q = c.requires in
    let span = span_of-drive a.d a.o a.len c.shape_of.ensures c.span_of-span.ensures.0 in
    let h = inside (shape_of a.d) a.o a.len q.0.limited q.1 q.2 in
    rw (ap (λ (x : Span). x.first) span) (omega (arith, h.first), span_start a.d a.vol.now a.o a.len q.0.limited)

pub loop-n-preserved : goal.loop-n-preserved
loop-n-preserved c =
    let a = c.args in
    let l = c.loop-n in
    let turn = span_turn a.d a.vol.now a.o a.len l.n l.invariant.1 c.way_at-way.ensures c.test_nugget.ensures in
    (omega (arith, c.loop-n-test.true, span_few a.d c.shape_of.ensures c.span_of-span.ensures.1), turn ∙ c.in_ok-test_nugget.was)

pub returns-in_err-test_nugget : goal.returns-in_err-test_nugget
returns-in_err-test_nugget c =
    let a = c.args in
    let l = c.loop-n in
    let turn = span_turn a.d a.vol.now a.o a.len l.n l.invariant.1 c.way_at-way.ensures c.test_nugget.ensures in
    handed _ _ _ c.from_residual.ensures.1 c.in_err-test_nugget.was
    ∙ span_off a.d a.vol.now a.o a.len l.n (omega (arith, c.loop-n-test.true, span_few a.d c.shape_of.ensures c.span_of-span.ensures.1)) turn (ap accepts c.in_err-test_nugget.was)

pub returns : goal.returns
returns c =
    let a = c.args in
    let q = c.requires in
    let l = c.loop-n in
    let span = span_of-drive a.d a.o a.len c.shape_of.ensures c.span_of-span.ensures.0 in
    let past = ap (λ (x : Span). x.end) span in
    span_end a.d a.vol.now a.o a.len l.n q.0.limited q.1 (omega (arith, past, c.loop-n-test.false)) l.invariant.0 l.invariant.1
