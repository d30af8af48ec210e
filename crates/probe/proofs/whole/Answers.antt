use Rattle.probe.specs.Probes.{whole_answer}
use Rattle.probe.proofs.ProbeLaws.{lent_told}
use Rattle.answers.specs.Numbers.{accepts}
use Rattle.answers.proofs.StageLaws.{handed}
use Rattle.base.proofs.PickLaws.{yes, no}
use mathlib.Core.Path.{refl, sym, ◌∙◌, ap}
use Rattle.probe.proofs.whole.Goals as goal

pub whole-requires : goal.whole-requires
whole-requires c = lent_told _ _ (sym (ap accepts c.shaped.ensures) ∙ ap accepts c.in_ok-shaped.was)

pub returns : goal.returns
unfolding whole_answer
returns c = c.whole.ensures ∙ sym (yes _ (sym (ap accepts c.shaped.ensures) ∙ ap accepts c.in_ok-shaped.was) refl)

pub returns-in_err-shaped : goal.returns-in_err-shaped
unfolding whole_answer
returns-in_err-shaped c = handed _ _ _ c.from_residual.ensures.1 c.in_err-shaped.was ∙ c.shaped.ensures ∙ sym (no _ (sym (ap accepts c.shaped.ensures) ∙ ap accepts c.in_err-shaped.was) refl)
