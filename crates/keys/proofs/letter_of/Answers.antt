use mathlib.Core.Path.{sym, refl}
use borrow.Author.Tests.{eq-eqb, ne_eqb}
use Rattle.base.proofs.PickLaws.{yes, no}
use Rattle.messages.specs.Messages.{letter_f, letter_g, tag_letter}
use Rattle.keys.proofs.letter_of.Goals as goal

pub returns-then-version-eq1 : goal.returns-then-version-eq1
unfolding tag_letter
returns-then-version-eq1 c = sym (yes letter_g (eq-eqb _ 1 c.if-version-eq1.true) refl)

pub returns-else-version-eq1 : goal.returns-else-version-eq1
unfolding tag_letter
returns-else-version-eq1 c = sym (no letter_f (ne_eqb _ 1 c.if-version-eq1.false) refl)
