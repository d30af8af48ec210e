use Rattle.layout.specs.Shape.{known}
use Rattle.base.proofs.PickLaws.{both-on, both_off}
use mathlib.Core.Path.{sym, refl, ◌∙◌}
use Rattle.layout.proofs.are_known.Goals as goal

pub returns-then-known_version : goal.returns-then-known_version
unfolding known
returns-then-known_version c = c.known_cipher.ensures ∙ sym (both-on (sym c.known_version.ensures ∙ c.if-known_version.true) refl)

pub returns-else-known_version : goal.returns-else-known_version
unfolding known
returns-else-known_version c = c.if-known_version.false ∙ sym (both_off _ (sym c.known_version.ensures ∙ c.if-known_version.false))
