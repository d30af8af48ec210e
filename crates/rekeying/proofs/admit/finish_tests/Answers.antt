use Rattle.changes.specs.Rekey.{left_in, finish_tests}
use Rattle.tree.specs.Whole.{whole_of}
use Rattle.drive.specs.Drive.{shape_of, gauge_of}
use Rattle.answers.specs.Answer as A
use Prim.Native.Nat.{ℕ, ◌<◌, ◌≤◌}
use Rattle.answers.specs.Numbers.{accepts}
use Rattle.answers.proofs.StageLaws.{goes_on, stops, handed}
use Rattle.base.proofs.PickLaws.{yes, no}
use native.Mathlib.Omega.{arith}
use borrow.Author.Tests.{eq-eqb, ne_eqb, lt-ltb, le-ltb}
use mathlib.Core.Path.{◌≡◌, refl, sym, ◌∙◌, ap}
use Rattle.rekeying.proofs.admit.finish_tests.Goals as goal

pub returns-then-left-gt0 : goal.returns-then-left-gt0
unfolding finish_tests
returns-then-left-gt0 c =
    let d = c.args.d in
    let v = c.args.vol.now in
    let w : c.whole.result ≡ whole_of (shape_of d) (gauge_of d) v = c.whole.ensures ∙ rw (c.shape_of.ensures, c.gauge_of.ensures) in
    let l = c.left_in-left.ensures in
    let some : 0 < left_in d v = omega (arith, l) in
    sym (goes_on _ _ (ap accepts (sym w) ∙ ap accepts c.in_ok-whole.was) ∙ yes _ (lt-ltb 0 (left_in d v) some) (ap (λ (k : ℕ). A.Left k) (sym l)))

pub returns-then-d-eq18446744073709551615 : goal.returns-then-d-eq18446744073709551615
unfolding finish_tests
returns-then-d-eq18446744073709551615 c =
    let d = c.args.d in
    let v = c.args.vol.now in
    let w : c.whole.result ≡ whole_of (shape_of d) (gauge_of d) v = c.whole.ensures ∙ rw (c.shape_of.ensures, c.gauge_of.ensures) in
    let none : left_in d v ≤ 0 = omega (arith, c.left_in-left.ensures) in
    sym (goes_on _ _ (ap accepts (sym w) ∙ ap accepts c.in_ok-whole.was) ∙ no _ (le-ltb 0 (left_in d v) none) (yes _ (eq-eqb _ _ c.if-d-eq18446744073709551615.true) refl))

pub returns : goal.returns
unfolding finish_tests
returns c =
    let d = c.args.d in
    let v = c.args.vol.now in
    let w : c.whole.result ≡ whole_of (shape_of d) (gauge_of d) v = c.whole.ensures ∙ rw (c.shape_of.ensures, c.gauge_of.ensures) in
    let none : left_in d v ≤ 0 = omega (arith, c.left_in-left.ensures) in
    sym (goes_on _ _ (ap accepts (sym w) ∙ ap accepts c.in_ok-whole.was) ∙ no _ (le-ltb 0 (left_in d v) none) (no _ (ne_eqb _ _ c.if-d-eq18446744073709551615.false) refl))

pub returns-in_err-whole : goal.returns-in_err-whole
unfolding finish_tests
returns-in_err-whole c =
    let d = c.args.d in
    let v = c.args.vol.now in
    let w : c.whole.result ≡ whole_of (shape_of d) (gauge_of d) v = c.whole.ensures ∙ rw (c.shape_of.ensures, c.gauge_of.ensures) in
    handed _ _ _ c.from_residual.ensures.1 c.in_err-whole.was ∙ w ∙ sym (stops _ _ (ap accepts (sym w) ∙ ap accepts c.in_err-whole.was))
