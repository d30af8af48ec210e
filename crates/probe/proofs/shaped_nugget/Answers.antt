use Rattle.probe.specs.Probes.{renew_answer}
use Rattle.answers.specs.Numbers.{accepts}
use Rattle.answers.proofs.StageLaws.{handed}
use Rattle.base.proofs.PickLaws.{yes, no}
use borrow.Author.Tests.{lt-ltb, le-ltb}
use mathlib.Core.Path.{refl, sym, ◌∙◌, ap}
use Rattle.probe.proofs.shaped_nugget.Goals as goal

pub returns-then-n-s : goal.returns-then-n-s
unfolding renew_answer
returns-then-n-s c = sym (yes _ (sym (ap accepts c.shaped.ensures) ∙ ap accepts c.in_ok-shaped.was) (yes _ (lt-ltb _ _ c.if-n-s.true) refl))

pub returns-else-n-s : goal.returns-else-n-s
unfolding renew_answer
returns-else-n-s c = sym (yes _ (sym (ap accepts c.shaped.ensures) ∙ ap accepts c.in_ok-shaped.was) (no _ (le-ltb _ _ c.if-n-s.false) refl))

pub returns-in_err-shaped : goal.returns-in_err-shaped
unfolding renew_answer
returns-in_err-shaped c = handed _ _ _ c.from_residual.ensures.1 c.in_err-shaped.was ∙ c.shaped.ensures ∙ sym (no _ (sym (ap accepts c.shaped.ensures) ∙ ap accepts c.in_err-shaped.was) refl)
