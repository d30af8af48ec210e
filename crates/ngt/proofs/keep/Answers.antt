use Rattle.base.proofs.PickLaws.{yes, no}
use Rattle.ngt.specs.Calls.{image_after}
use mathlib.Core.Path.{refl, sym, ◌∙◌}
use Rattle.ngt.proofs.keep.Goals as goal

pub returns-then-changes : goal.returns-then-changes
unfolding image_after
returns-then-changes c = c.pack.ensures ∙ sym (yes _ c.if-changes.true refl)

pub returns-else-changes : goal.returns-else-changes
unfolding image_after
returns-else-changes c = sym (no _ c.if-changes.false refl)
