use Rattle.probe.specs.Probes.{path_answer}
use Rattle.probe.proofs.ProbeLaws.{nugget_told_lem}
use Rattle.answers.specs.Numbers.{accepts}
use Rattle.answers.proofs.StageLaws.{handed}
use Rattle.base.proofs.PickLaws.{yes, no}
use mathlib.Core.Path.{refl, sym, ◌∙◌, ap}
use Rattle.probe.proofs.path.Goals as goal

pub path-requires : goal.path-requires
path-requires c = nugget_told_lem _ _ _ (sym (ap accepts c.shaped_nugget.ensures) ∙ ap accepts c.in_ok-shaped_nugget.was)

pub returns : goal.returns
unfolding path_answer
returns c = c.path.ensures ∙ sym (yes _ (sym (ap accepts c.shaped_nugget.ensures) ∙ ap accepts c.in_ok-shaped_nugget.was) refl)

pub returns-in_err-shaped_nugget : goal.returns-in_err-shaped_nugget
unfolding path_answer
returns-in_err-shaped_nugget c = handed _ _ _ c.from_residual.ensures.1 c.in_err-shaped_nugget.was ∙ c.shaped_nugget.ensures ∙ sym (no _ (sym (ap accepts c.shaped_nugget.ensures) ∙ ap accepts c.in_err-shaped_nugget.was) refl)
