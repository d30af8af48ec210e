use Rattle.drive.specs.Opening.{in_form}
use Rattle.layout.specs.Shape.{in_limits}
use Rattle.base.proofs.PickLaws.{both-on, both_off}
use mathlib.Core.Path.{refl, sym, ◌∙◌, ap}
use Rattle.drive.proofs.in_form.Goals as goal

pub returns-then-in_limits : goal.returns-then-in_limits
unfolding in_form
returns-then-in_limits c = c.state_fits.ensures ∙ sym (both-on (sym (ap in_limits c.shape_of.ensures) ∙ sym c.in_limits.ensures ∙ c.if-in_limits.true) refl)

pub returns-else-in_limits : goal.returns-else-in_limits
unfolding in_form
returns-else-in_limits c = c.if-in_limits.false ∙ sym (both_off _ (sym (ap in_limits c.shape_of.ensures) ∙ sym c.in_limits.ensures ∙ c.if-in_limits.false))
