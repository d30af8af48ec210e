use Rattle.base.proofs.PickLaws.{both-on, both_off}
use mathlib.Core.Path.{refl, sym, ◌∙◌}
use Rattle.ngt.proofs.changing.writes_by.Goals as goal

pub returns-then-is_ok : goal.returns-then-is_ok
returns-then-is_ok c = sym (both-on (sym c.is_ok.ensures.value ∙ c.if-is_ok.true) refl)

pub returns-else-is_ok : goal.returns-else-is_ok
returns-else-is_ok c = c.if-is_ok.false ∙ sym (both_off _ (sym c.is_ok.ensures.value ∙ c.if-is_ok.false))
