use Rattle.opening.specs.Mount.{keys_of}
use Rattle.base.proofs.PickLaws.{yes, no}
use borrow.Author.Tests.{eq-eqb, ne_eqb}
use mathlib.Core.Path.{refl, sym, ◌∙◌}
use Rattle.opening.proofs.keys_fit.Goals as goal

pub returns-then-not-seal_stands : goal.returns-then-not-seal_stands
unfolding keys_of
returns-then-not-seal_stands c = sym (no _ (sym c.seal_stands.ensures ∙ c.if-not-seal_stands.true) refl)

pub returns-then-not-check_stands : goal.returns-then-not-check_stands
unfolding keys_of
returns-then-not-check_stands c = sym (yes _ (sym c.seal_stands.ensures ∙ c.if-not-seal_stands.false) (no _ (sym c.check_stands.ensures ∙ c.if-not-check_stands.true) refl))

pub returns-then-d-outside : goal.returns-then-d-outside
unfolding keys_of
returns-then-d-outside c = sym (yes _ (sym c.seal_stands.ensures ∙ c.if-not-seal_stands.false) (yes _ (sym c.check_stands.ensures ∙ c.if-not-check_stands.false) (no _ (ne_eqb _ _ c.if-d-outside.true) refl)))

pub returns : goal.returns
unfolding keys_of
returns c = sym (yes _ (sym c.seal_stands.ensures ∙ c.if-not-seal_stands.false) (yes _ (sym c.check_stands.ensures ∙ c.if-not-check_stands.false) (yes _ (eq-eqb _ _ c.if-d-outside.false) refl)))
