use Rattle.layout.specs.Shape.{known_cipher}
use Rattle.base.proofs.PickLaws.{either_left}
use lib.Dec.{eqb}
use borrow.Author.Tests.{eq-eqb, ne_eqb}
use mathlib.Core.Path.{sym, refl, ◌∙◌}
use Rattle.layout.proofs.known_cipher.Goals as goal

pub returns-then-cipher-eq0 : goal.returns-then-cipher-eq0
unfolding known_cipher
returns-then-cipher-eq0 c = let v = c.args.cipher in let e = eq-eqb v 0 c.if-cipher-eq0.true in e ∙ sym (either_left (eqb v 16) e)

pub returns-else-cipher-eq0 : goal.returns-else-cipher-eq0
unfolding known_cipher
returns-else-cipher-eq0 c = let v = c.args.cipher in rw (ne_eqb v 0 c.if-cipher-eq0.false) refl
