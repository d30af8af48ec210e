use Rattle.changes.specs.Rekey.{begin_tests}
use Rattle.base.proofs.PickLaws.{yes, no}
use borrow.Author.Tests.{eq-eqb, ne_eqb}
use mathlib.Core.Path.{refl, sym, ◌∙◌}
use Rattle.rekeying.proofs.admit.begin_tests.Goals as goal

pub returns-then-is_changing : goal.returns-then-is_changing
unfolding begin_tests
returns-then-is_changing c = sym (yes _ (sym c.is_changing.ensures ∙ c.if-is_changing.true) refl)

pub returns-then-equal : goal.returns-then-equal
unfolding begin_tests
returns-then-equal c = sym (no _ (sym c.is_changing.ensures ∙ c.if-is_changing.false) (yes _ (sym c.equal.ensures ∙ c.if-equal.true) refl))

pub returns-then-d : goal.returns-then-d
unfolding begin_tests
returns-then-d c = sym (no _ (sym c.is_changing.ensures ∙ c.if-is_changing.false) (no _ (sym c.equal.ensures ∙ c.if-equal.false) (yes _ (eq-eqb _ _ c.if-d.true) refl)))

pub returns-then-d-2 : goal.returns-then-d-2
unfolding begin_tests
returns-then-d-2 c = sym (no _ (sym c.is_changing.ensures ∙ c.if-is_changing.false) (no _ (sym c.equal.ensures ∙ c.if-equal.false) (no _ (ne_eqb _ _ c.if-d.false) (yes _ (eq-eqb _ _ c.if-d-2.true) refl))))

pub returns : goal.returns
unfolding begin_tests
returns c = sym (no _ (sym c.is_changing.ensures ∙ c.if-is_changing.false) (no _ (sym c.equal.ensures ∙ c.if-equal.false) (no _ (ne_eqb _ _ c.if-d.false) (no _ (ne_eqb _ _ c.if-d-2.false) refl))))
