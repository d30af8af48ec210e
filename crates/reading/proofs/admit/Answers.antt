use Rattle.reading.proofs.AnswerLaws.{answer_tests, answer-past, answer-opening}
use Rattle.drive.specs.Opening.{opening_of}
use Rattle.answers.specs.Numbers.{accepts}
use Rattle.answers.proofs.StageLaws.{handed}
use mathlib.Core.Bool.{true}
use mathlib.Core.Path.{◌≡◌, sym, ◌∙◌, ap}
use Rattle.drive.proofs.OpeningLaws.{opening_lent}
use Rattle.nuggets.proofs.TouchLaws.{fits-within}
use Rattle.reading.proofs.admit.Goals as goal

pub test_nuggets-requires : goal.test_nuggets-requires
test_nuggets-requires c =
    let a = c.args in
    let opened : accepts (opening_of a.d a.vol.now) ≡ true = ap accepts (sym c.opening.ensures ∙ c.in_ok-opening.was) in
    (opening_lent a.d a.vol.now opened, fits-within a.d a.offset a.len c.shape_of.ensures (sym c.fits.ensures ∙ c.if-not-fits.false))

pub returns : goal.returns
returns c =
    let a = c.args in
    let opened : accepts (opening_of a.d a.vol.now) ≡ true = ap accepts (sym c.opening.ensures ∙ c.in_ok-opening.was) in
    answer_tests a.d a.vol.now a.offset a.len opened c.shape_of.ensures (sym c.fits.ensures ∙ c.if-not-fits.false) c.test_nuggets.ensures

pub returns-then-not-fits : goal.returns-then-not-fits
returns-then-not-fits c =
    let a = c.args in
    let opened : accepts (opening_of a.d a.vol.now) ≡ true = ap accepts (sym c.opening.ensures ∙ c.in_ok-opening.was) in
    answer-past a.d a.vol.now a.offset a.len opened c.shape_of.ensures (sym c.fits.ensures ∙ c.if-not-fits.true)

pub returns-in_err-opening : goal.returns-in_err-opening
returns-in_err-opening c =
    let a = c.args in
    handed _ _ _ c.from_residual.ensures.1 c.in_err-opening.was
    ∙ c.opening.ensures ∙ answer-opening a.d a.vol.now a.offset a.len (ap accepts (sym c.opening.ensures ∙ c.in_err-opening.was))
