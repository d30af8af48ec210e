use Rattle.layout.specs.Shape.{width_of}
use Rattle.base.proofs.PickLaws.{yes, no}
use borrow.Author.Tests.{eq-eqb, ne_eqb}
use mathlib.Core.Path.{sym, refl}
use Rattle.layout.proofs.width_of.Goals as goal

pub returns-then-s-eq1 : goal.returns-then-s-eq1
unfolding width_of
returns-then-s-eq1 c = let s = c.args.s in sym (yes 26 (eq-eqb s.version 1 c.if-s-eq1.true) refl)

pub returns-else-s-eq1 : goal.returns-else-s-eq1
unfolding width_of
returns-else-s-eq1 c = let s = c.args.s in sym (no 18 (ne_eqb s.version 1 c.if-s-eq1.false) refl)
