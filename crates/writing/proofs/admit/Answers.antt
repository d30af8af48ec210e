use Rattle.writing.proofs.AnswerLaws.{answer-opening, answer-past, answer-empty, answer-top, answer_tests, answer_lent}
use native.Mathlib.Nat.{pos_of_ne-zero}
use Rattle.answers.specs.Numbers.{accepts}
use Rattle.answers.proofs.StageLaws.{handed}
use mathlib.Core.Path.{ap, sym, ◌∙◌}
use Rattle.writing.proofs.admit.Goals as goal

pub returns-then-len-eq0 : goal.returns-then-len-eq0
returns-then-len-eq0 c =
    let a = c.args in
    answer-empty a.d a.vol.now a.offset a.len c.opening.ensures (ap accepts c.in_ok-opening.was) c.shape_of.ensures (sym c.fits.ensures ∙ c.if-not-fits.false) c.if-len-eq0.true

pub returns-then-d-eq18446744073709551615 : goal.returns-then-d-eq18446744073709551615
returns-then-d-eq18446744073709551615 c =
    let a = c.args in
    answer-top a.d a.vol.now a.offset a.len c.opening.ensures (ap accepts c.in_ok-opening.was) c.shape_of.ensures (sym c.fits.ensures ∙ c.if-not-fits.false) c.if-len-eq0.false c.if-d-eq18446744073709551615.true

pub test_span-requires : goal.test_span-requires
test_span-requires c =
    let a = c.args in
    let l = answer_lent a.d a.vol.now a.offset a.len c.opening.ensures (ap accepts c.in_ok-opening.was) c.shape_of.ensures (sym c.fits.ensures ∙ c.if-not-fits.false) in
    (l.0, pos_of_ne-zero c.if-len-eq0.false, l.1)

pub returns-else-d-eq18446744073709551615 : goal.returns-else-d-eq18446744073709551615
returns-else-d-eq18446744073709551615 c =
    let a = c.args in
    answer_tests a.d a.vol.now a.offset a.len c.opening.ensures (ap accepts c.in_ok-opening.was) c.shape_of.ensures (sym c.fits.ensures ∙ c.if-not-fits.false) c.if-len-eq0.false c.if-d-eq18446744073709551615.false c.test_span.ensures

pub returns-then-not-fits : goal.returns-then-not-fits
returns-then-not-fits c =
    let a = c.args in
    answer-past a.d a.vol.now a.offset a.len c.opening.ensures (ap accepts c.in_ok-opening.was) c.shape_of.ensures (sym c.fits.ensures ∙ c.if-not-fits.true)

pub returns-in_err-opening : goal.returns-in_err-opening
returns-in_err-opening c =
    let a = c.args in
    handed _ _ _ c.from_residual.ensures.1 c.in_err-opening.was
    ∙ answer-opening a.d a.vol.now a.offset a.len c.opening.ensures (ap accepts c.in_err-opening.was)
