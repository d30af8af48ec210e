use Rattle.opening.specs.Mount.{mark_fits}
use Rattle.layout.specs.Shape.{known_version}
use Rattle.base.proofs.PickLaws.{both-on, both_off}
use Prim.Native.Nat.{ℕ}
use mathlib.Core.Path.{refl, sym, ◌∙◌, ap}
use Rattle.opening.proofs.head.has_mark.Goals as goal

pub returns-then-equal : goal.returns-then-equal
unfolding mark_fits
returns-then-equal c = c.known_version.ensures ∙ ap (λ (x : ℕ). known_version x) c.load.ensures.0 ∙ sym (both-on (sym c.equal.ensures ∙ c.if-equal.true) refl)

pub returns-else-equal : goal.returns-else-equal
unfolding mark_fits
returns-else-equal c = c.if-equal.false ∙ sym (both_off _ (sym c.equal.ensures ∙ c.if-equal.false))
