use mathlib.Core.Path.{sym, refl}
use borrow.Author.Tests.{eq-eqb, ne_eqb}
use Rattle.base.proofs.PickLaws.{yes, no}
use Rattle.tree.specs.Whole.{at_node}
use Rattle.tree.proofs.at_node.Goals as goal

pub returns-then-i-eq0 : goal.returns-then-i-eq0
unfolding at_node
returns-then-i-eq0 c = sym (yes _ (eq-eqb _ _ c.if-i-eq0.true) refl)

pub returns-else-i-eq0 : goal.returns-else-i-eq0
unfolding at_node
returns-else-i-eq0 c = sym (no _ (ne_eqb _ _ c.if-i-eq0.false) refl)
