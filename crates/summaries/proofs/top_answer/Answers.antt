use Rattle.std.proofs.Common.{sym, refl, ap, ◌∙◌, eq-eqb, ne_eqb}
use Rattle.base.proofs.PickLaws.{yes, no}
use Rattle.answers.specs.Numbers.{accepts}
use Rattle.answers.proofs.StageLaws.{goes_on, stops, handed}
use Rattle.layout.proofs.Limits.{limits}
use Rattle.drive.specs.Drive.{shape_of}
use Rattle.drive.proofs.OpeningLaws.{measure_lent}
use Rattle.summaries.specs.Calls.{top_answer}
use Rattle.summaries.proofs.top_answer.Goals as goal

pub length_of-requires : goal.length_of-requires
length_of-requires c =
    let a = c.args in
    (limits (shape_of a.d) (measure_lent a.d a.vol.now (ap accepts (sym c.measure.ensures ∙ c.in_ok-measure.was))).limited).few

pub returns-then-len-length_of : goal.returns-then-len-length_of
unfolding top_answer
returns-then-len-length_of c =
    sym (goes_on _ _ (ap accepts (sym c.measure.ensures ∙ c.in_ok-measure.was)) ∙ no _ (ne_eqb _ _ (λ e. c.if-len-length_of.true (e ∙ sym c.length_of.ensures))) refl)

pub returns : goal.returns
unfolding top_answer
returns c =
    c.opening.ensures
    ∙ sym (goes_on _ _ (ap accepts (sym c.measure.ensures ∙ c.in_ok-measure.was)) ∙ yes _ (eq-eqb _ _ (c.if-len-length_of.false ∙ c.length_of.ensures)) refl)

pub returns-in_err-measure : goal.returns-in_err-measure
unfolding top_answer
returns-in_err-measure c =
    handed _ _ _ c.from_residual.ensures.1 c.in_err-measure.was
    ∙ c.measure.ensures ∙ sym (stops _ _ (ap accepts (sym c.measure.ensures ∙ c.in_err-measure.was)))
