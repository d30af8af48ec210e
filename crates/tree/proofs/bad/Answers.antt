use mathlib.Core.Path.{sym, ◌∙◌}
use Rattle.base.proofs.PickLaws.{clash}
use Rattle.tree.proofs.Steps.{bad-nugget, bad-good, bad-bad}
use Rattle.tree.proofs.bad.Goals as goal
use Rattle.tree.proofs.bad.Goals.{then-nugget_leaf, else-nugget_leaf}

pub returns-then-good : goal.returns-then-good
returns-then-good c =
    elim c.if-nugget_leaf.branch [
      | then-nugget_leaf w ↦ bad-nugget _ _ _ (sym c.nugget_leaf.ensures ∙ w.if-nugget_leaf.true)
      | else-nugget_leaf w ↦ bad-good _ _ _ (sym c.nugget_leaf.ensures ∙ w.if-nugget_leaf.false) (sym w.good.ensures ∙ sym w.value-is ∙ c.if-good.true)
    ]

pub returns-else-good : goal.returns-else-good
returns-else-good c =
    elim c.if-nugget_leaf.branch [
      | then-nugget_leaf w ↦ absurd (clash (w.value-is ∙ w.if-nugget_leaf.true) c.if-good.false)
      | else-nugget_leaf w ↦ bad-bad _ _ _ (sym c.nugget_leaf.ensures ∙ w.if-nugget_leaf.false) (sym w.good.ensures ∙ sym w.value-is ∙ c.if-good.false)
    ]
