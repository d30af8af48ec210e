use Rattle.drive.specs.declared.State.TheVariants.{Changing}
use Rattle.base.proofs.PickLaws.{yes, no}
use borrow.Author.Tests.{eq-eqb, ne_eqb}
use mathlib.Core.Path.{refl, sym, ◌∙◌, ap}
use Rattle.packed.proofs.state_in.Goals as goal

pub returns-then-load-eq0 : goal.returns-then-load-eq0
returns-then-load-eq0 c = sym (yes _ (eq-eqb _ _ (sym c.load.ensures.0 ∙ c.if-load-eq0.true)) refl)

pub returns-else-load-eq0 : goal.returns-else-load-eq0
returns-else-load-eq0 c = sym (no _ (ne_eqb _ _ (λ e. c.if-load-eq0.false (c.load.ensures.0 ∙ e))) (ap Changing (sym c.load-else-load-eq0.ensures.0)))
