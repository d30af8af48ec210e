use mathlib.Core.Path.{refl, sym, ap, ◌∙◌}
use borrow.Author.Tests.{eq-eqb, ne_eqb}
use Rattle.base.proofs.PickLaws.{yes, no}
use Rattle.answers.specs.Numbers.{accepts}
use Rattle.answers.proofs.StageLaws.{goes_on, stops, handed}
use Rattle.drive.proofs.OpeningLaws.{measure_lent}
use Rattle.moving.specs.Move.{move_answer}
use Rattle.moving.proofs.AnswerLaws.{entered-long}
use Rattle.moving.proofs.admit.Goals as goal

pub returns : goal.returns
unfolding move_answer
returns c =
    let a = c.args in
    let on = ap accepts (sym c.measure.ensures) ∙ ap accepts c.in_ok-measure.was in
    let long = entered-long a.enter a.d c.requires (measure_lent a.d a.vol.now on).limited c.entering.ensures c.shape_of.ensures c.length_of.ensures in
    c.leave_tests.ensures ∙ sym (goes_on _ _ on ∙ yes _ (eq-eqb _ _ (c.if-len-length_of.false ∙ long)) refl)

pub returns-then-len-length_of : goal.returns-then-len-length_of
unfolding move_answer
returns-then-len-length_of c =
    let a = c.args in
    let on = ap accepts (sym c.measure.ensures) ∙ ap accepts c.in_ok-measure.was in
    let long = entered-long a.enter a.d c.requires (measure_lent a.d a.vol.now on).limited c.entering.ensures c.shape_of.ensures c.length_of.ensures in
    sym (goes_on _ _ on ∙ no _ (ne_eqb _ _ (λ e. c.if-len-length_of.true (e ∙ sym long))) refl)

pub returns-in_err-measure : goal.returns-in_err-measure
unfolding move_answer
returns-in_err-measure c =
    let is = c.measure.ensures in
    handed _ _ _ c.from_residual.ensures.1 c.in_err-measure.was ∙ is ∙ sym (stops _ _ (ap accepts (sym is) ∙ ap accepts c.in_err-measure.was))
