use Rattle.layout.specs.Shape.{in_limits}
use Rattle.base.proofs.PickLaws.{both-on, both_off}
use mathlib.Core.Path.{sym, ◌∙◌}
use Rattle.layout.proofs.in_limits.Goals as goal

pub returns-then-are_sized : goal.returns-then-are_sized
unfolding in_limits
returns-then-are_sized c = sym (both-on (sym c.are_sized.ensures ∙ c.if-are_sized.true) (sym c.are_known.ensures))

pub returns-else-are_sized : goal.returns-else-are_sized
unfolding in_limits
returns-else-are_sized c = c.if-are_sized.false ∙ sym (both_off _ (sym c.are_sized.ensures ∙ c.if-are_sized.false))
