use mathlib.Core.Path.{sym, ap}
use mathlib.Core.Bool.{Bool}
use borrow.Author.Tests.{eq-eqb, ne_eqb}
use Rattle.keys.specs.Ciphers.{cipher_by}
use Rattle.keys.proofs.unit_of.Goals as goal

pub returns-then-cipher-eq16 : goal.returns-then-cipher-eq16
returns-then-cipher-eq16 c = sym (ap (λ (b : Bool). (cipher_by b).unit) (eq-eqb c.args.cipher 16 c.if-cipher-eq16.true))

pub returns-else-cipher-eq16 : goal.returns-else-cipher-eq16
returns-else-cipher-eq16 c = sym (ap (λ (b : Bool). (cipher_by b).unit) (ne_eqb c.args.cipher 16 c.if-cipher-eq16.false))
