use Rattle.nuggets.specs.Nugget.{secret_for}
use Rattle.base.proofs.PickLaws.{yes, no}
use borrow.Author.Tests.{eq-eqb, ne_eqb}
use mathlib.Core.Path.{refl, sym}
use Rattle.nuggets.proofs.secret_for.Goals as goal

pub returns-then-epoch-d : goal.returns-then-epoch-d
unfolding secret_for
returns-then-epoch-d c = sym (yes _ (eq-eqb _ _ c.if-epoch-d.true) refl)

pub returns-else-epoch-d : goal.returns-else-epoch-d
unfolding secret_for
returns-else-epoch-d c = sym (no _ (ne_eqb _ _ c.if-epoch-d.false) refl)
