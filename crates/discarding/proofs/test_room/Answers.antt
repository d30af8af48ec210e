use Rattle.base.proofs.PickLaws.{yes, no}
use borrow.Author.Tests.{eq-eqb, ne_eqb}
use mathlib.Core.Path.{refl, sym, ◌∙◌}
use Rattle.discarding.proofs.test_room.Goals as goal
use Rattle.discarding.proofs.test_room.Goals.{else-not-clears_none-via-then-not-clears_none+else-d-eq18446744073709551615, else-not-clears_none-via-else-not-clears_none}

pub returns-then-d-eq18446744073709551615 : goal.returns-then-d-eq18446744073709551615
returns-then-d-eq18446744073709551615 c = sym (no _ (sym c.clears_none.ensures ∙ c.if-not-clears_none.true) (yes _ (eq-eqb _ _ c.if-d-eq18446744073709551615.true) refl))

pub returns : goal.returns
returns c =
    elim c.else-not-clears_none.branch [
      | else-not-clears_none-via-then-not-clears_none+else-d-eq18446744073709551615 w ↦
          sym (no _ (sym c.clears_none.ensures ∙ w.if-not-clears_none.true) (no _ (ne_eqb _ _ w.if-d-eq18446744073709551615.false) refl))
      | else-not-clears_none-via-else-not-clears_none w ↦ sym (yes _ (sym c.clears_none.ensures ∙ w.if-not-clears_none.false) refl)
    ]
