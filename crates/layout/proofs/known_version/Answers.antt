use Rattle.layout.specs.Shape.{known_version}
use Rattle.base.proofs.PickLaws.{either_left}
use lib.Dec.{eqb}
use borrow.Author.Tests.{eq-eqb, ne_eqb}
use mathlib.Core.Path.{sym, refl, ◌∙◌}
use Rattle.layout.proofs.known_version.Goals as goal

pub returns-then-version-eq1 : goal.returns-then-version-eq1
unfolding known_version
returns-then-version-eq1 c = let v = c.args.version in let e = eq-eqb v 1 c.if-version-eq1.true in e ∙ sym (either_left (eqb v 2) e)

pub returns-else-version-eq1 : goal.returns-else-version-eq1
unfolding known_version
returns-else-version-eq1 c = let v = c.args.version in rw (ne_eqb v 1 c.if-version-eq1.false) refl
