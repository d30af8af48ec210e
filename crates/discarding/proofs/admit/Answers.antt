use Rattle.changes.specs.Discard.{range_fits, discard_answer}
use Rattle.drive.proofs.OpeningLaws.{opening_lent}
use Rattle.answers.specs.Numbers.{accepts}
use Rattle.answers.proofs.StageLaws.{goes_on, stops, handed}
use Rattle.base.proofs.PickLaws.{yes, no, both_left, both_right}
use Prim.Native.Nat.{◌+◌}
use lib.Dec.{leb, ltb}
use borrow.Author.Tests.{eq-eqb, ne_eqb, ltb-true, leb-true}
use mathlib.Core.Path.{refl, sym, ◌∙◌, ap}
use Rattle.discarding.proofs.admit.Goals as goal

pub returns-then-d-eq1 : goal.returns-then-d-eq1
unfolding discard_answer
returns-then-d-eq1 c =
    sym (goes_on _ _ (ap accepts (sym c.opening.ensures) ∙ ap accepts c.in_ok-opening.was)
    ∙ yes _ (eq-eqb _ _ c.if-d-eq1.true) refl)

pub clear_tests-requires : goal.clear_tests-requires
unfolding range_fits
clear_tests-requires c =
    let a = c.args in
    let low = ltb a.freed.nugget a.d.n in
    let few = leb (a.freed.first + a.freed.count) a.d.p in
    let fits = sym c.fits.ensures ∙ c.if-not-fits.false in (
      opening_lent a.d a.vol.now (ap accepts (sym c.opening.ensures) ∙ ap accepts c.in_ok-opening.was),
      ltb-true _ _ (both_left low few fits),
      leb-true _ _ (both_right low few fits),
    )

pub returns : goal.returns
unfolding discard_answer
returns c =
    c.clear_tests.ensures
    ∙ sym (goes_on _ _ (ap accepts (sym c.opening.ensures) ∙ ap accepts c.in_ok-opening.was)
    ∙ no _ (ne_eqb _ _ c.if-d-eq1.false) (yes _ (sym c.fits.ensures ∙ c.if-not-fits.false) refl))

pub returns-then-not-fits : goal.returns-then-not-fits
unfolding discard_answer
returns-then-not-fits c =
    sym (goes_on _ _ (ap accepts (sym c.opening.ensures) ∙ ap accepts c.in_ok-opening.was)
    ∙ no _ (ne_eqb _ _ c.if-d-eq1.false) (no _ (sym c.fits.ensures ∙ c.if-not-fits.true) refl))

pub returns-in_err-opening : goal.returns-in_err-opening
unfolding discard_answer
returns-in_err-opening c =
    let p = c.opening.ensures in
    handed _ _ _ c.from_residual.ensures.1 c.in_err-opening.was ∙ p ∙ sym (stops _ _ (ap accepts (sym p) ∙ ap accepts c.in_err-opening.was))
