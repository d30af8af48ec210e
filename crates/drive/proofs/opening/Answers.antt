use Rattle.drive.proofs.HeadLaws.{form_limits}
use Rattle.drive.proofs.OpeningLaws.{measure-told}
use Rattle.drive.specs.Opening.{measure_of, opening_of}
use Rattle.answers.specs.Numbers.{accepts}
use Rattle.answers.proofs.StageLaws.{goes_on, stops, handed}
use Rattle.base.proofs.PickLaws.{yes, no}
use mathlib.Core.Bool.{true}
use mathlib.Core.Path.{◌≡◌, refl, sym, ◌∙◌, ap}
use Rattle.drive.proofs.opening.Goals as goal

pub head_stands-requires : goal.head_stands-requires
head_stands-requires c =
    let a = c.args in
    let t = measure-told a.d a.vol.now (ap accepts (sym c.measure.ensures) ∙ ap accepts c.in_ok-measure.was) in
    (form_limits a.d t.form, t.long)

pub returns-then-head_stands : goal.returns-then-head_stands
unfolding opening_of
returns-then-head_stands c =
    let a = c.args in
    let on : accepts (measure_of a.d a.vol.now) ≡ true = ap accepts (sym c.measure.ensures) ∙ ap accepts c.in_ok-measure.was in
    sym (goes_on _ _ on ∙ yes _ (sym c.head_stands.ensures ∙ c.if-head_stands.true) refl)

pub returns-else-head_stands : goal.returns-else-head_stands
unfolding opening_of
returns-else-head_stands c =
    sym (goes_on _ _ (ap accepts (sym c.measure.ensures) ∙ ap accepts c.in_ok-measure.was) ∙ no _ (sym c.head_stands.ensures ∙ c.if-head_stands.false) refl)

pub returns-in_err-measure : goal.returns-in_err-measure
unfolding opening_of
returns-in_err-measure c =
    handed _ _ _ c.from_residual.ensures.1 c.in_err-measure.was
    ∙ c.measure.ensures ∙ sym (stops _ _ (ap accepts (sym c.measure.ensures) ∙ ap accepts c.in_err-measure.was))
