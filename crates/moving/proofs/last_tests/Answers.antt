use mathlib.Core.Path.{◌≡◌, refl, sym, ap, ◌∙◌}
use borrow.Author.Tests.{eq-eqb, ne_eqb}
use Rattle.base.proofs.PickLaws.{yes, no}
use Rattle.answers.specs.Numbers.{accepts}
use Rattle.answers.proofs.StageLaws.{goes_on, stops, handed}
use Rattle.layout.specs.declared.Shape.{Shape}
use Rattle.drive.specs.Drive.{shape_of}
use Rattle.moving.specs.Move.{ascending, kept_tests, last_tests}
use Rattle.moving.proofs.last_tests.Goals as goal

pub returns-then-d-eq18446744073709551615 : goal.returns-then-d-eq18446744073709551615
unfolding last_tests
returns-then-d-eq18446744073709551615 c =
    let a = c.args in
    let is : c.all_kept.result ≡ ascending (kept_tests (shape_of a.d) a.vol.now) a.d.n 0 = c.all_kept.ensures ∙ ap (λ (z : Shape). ascending (kept_tests z a.vol.now) z.n 0) c.shape_of.ensures in
    sym (goes_on _ _ (ap accepts (sym is) ∙ ap accepts c.in_ok-all_kept.was) ∙ yes _ (eq-eqb _ _ c.if-d-eq18446744073709551615.true) refl)

pub returns : goal.returns
unfolding last_tests
returns c =
    let a = c.args in
    let is : c.all_kept.result ≡ ascending (kept_tests (shape_of a.d) a.vol.now) a.d.n 0 = c.all_kept.ensures ∙ ap (λ (z : Shape). ascending (kept_tests z a.vol.now) z.n 0) c.shape_of.ensures in
    sym (goes_on _ _ (ap accepts (sym is) ∙ ap accepts c.in_ok-all_kept.was) ∙ no _ (ne_eqb _ _ c.if-d-eq18446744073709551615.false) refl)

pub returns-in_err-all_kept : goal.returns-in_err-all_kept
unfolding last_tests
returns-in_err-all_kept c =
    let a = c.args in
    let is : c.all_kept.result ≡ ascending (kept_tests (shape_of a.d) a.vol.now) a.d.n 0 = c.all_kept.ensures ∙ ap (λ (z : Shape). ascending (kept_tests z a.vol.now) z.n 0) c.shape_of.ensures in
    handed _ _ _ c.from_residual.ensures.1 c.in_err-all_kept.was ∙ is ∙ sym (stops _ _ (ap accepts (sym is) ∙ ap accepts c.in_err-all_kept.was))
