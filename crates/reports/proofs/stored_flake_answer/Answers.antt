use Rattle.reports.specs.Stored.{stored_answer}
use Rattle.answers.specs.Numbers.{accepts}
use Rattle.answers.proofs.StageLaws.{goes_on, stops, handed}
use Rattle.base.proofs.PickLaws.{yes, no}
use mathlib.Core.Path.{refl, sym, ap, ◌∙◌}
use Rattle.reports.proofs.stored_flake_answer.Goals as goal

pub returns-then-is_flake : goal.returns-then-is_flake
unfolding stored_answer
returns-then-is_flake c =
    sym (goes_on _ _ (ap accepts (sym c.measure.ensures ∙ c.in_ok-measure.was)) ∙ yes _ (sym c.is_flake.ensures ∙ c.if-is_flake.true) refl)

pub returns-else-is_flake : goal.returns-else-is_flake
unfolding stored_answer
returns-else-is_flake c =
    sym (goes_on _ _ (ap accepts (sym c.measure.ensures ∙ c.in_ok-measure.was)) ∙ no _ (sym c.is_flake.ensures ∙ c.if-is_flake.false) refl)

pub returns-in_err-measure : goal.returns-in_err-measure
unfolding stored_answer
returns-in_err-measure c =
    handed _ _ _ c.from_residual.ensures.1 c.in_err-measure.was
    ∙ c.measure.ensures ∙ sym (stops _ _ (ap accepts (sym c.measure.ensures ∙ c.in_err-measure.was)))
