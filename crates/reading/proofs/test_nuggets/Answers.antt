use Rattle.reading.proofs.AnswerLaws.{nuggets-some, nuggets-none}
use Rattle.nuggets.proofs.SpanLaws.{span_of-drive}
use Rattle.reading.proofs.test_nuggets.Goals as goal

pub returns-then-len-eq0 : goal.returns-then-len-eq0
returns-then-len-eq0 c = nuggets-none c.args.d c.args.vol.now c.args.o c.args.len c.if-len-eq0.true

pub returns : goal.returns
returns c =
    let a = c.args in
    nuggets-some a.d a.vol.now a.o a.len c.if-len-eq0.false (span_of-drive a.d a.o a.len c.shape_of.ensures c.span_of-span.ensures.0) c.test_span.ensures
