use mathlib.Core.Path.{◌≡◌, sym, ap, ◌∙◌}
use Rattle.answers.specs.Numbers.{accepts}
use Rattle.answers.proofs.StageLaws.{goes_on, stops, handed}
use Rattle.tree.specs.Whole.{whole_of}
use Rattle.drive.specs.Drive.{shape_of, gauge_of}
use Rattle.moving.specs.Move.{parts_tests}
use Rattle.moving.proofs.parts_tests.Goals as goal

pub returns : goal.returns
unfolding parts_tests
returns c =
    let a = c.args in
    let is : c.whole.result ≡ whole_of (shape_of a.d) (gauge_of a.d) a.vol.now = c.whole.ensures ∙ rw (c.shape_of.ensures, c.gauge_of.ensures) in
    let held = ap accepts (sym c.held_pass.ensures) ∙ ap accepts c.in_ok-held_pass.was in
    c.last_tests.ensures
    ∙ sym (goes_on _ _ (ap accepts (sym is) ∙ ap accepts c.in_ok-whole.was) ∙ goes_on _ _ held)

pub returns-in_err-held_pass : goal.returns-in_err-held_pass
unfolding parts_tests
returns-in_err-held_pass c =
    let a = c.args in
    let is : c.whole.result ≡ whole_of (shape_of a.d) (gauge_of a.d) a.vol.now = c.whole.ensures ∙ rw (c.shape_of.ensures, c.gauge_of.ensures) in
    let stopped = c.held_pass.ensures in
    let refused = c.in_err-held_pass.was in
    handed _ _ _ c.from_residual-in_err-held_pass.ensures.1 refused
    ∙ stopped
    ∙ sym (goes_on _ _ (ap accepts (sym is) ∙ ap accepts c.in_ok-whole.was) ∙ stops _ _ (ap accepts (sym stopped) ∙ ap accepts refused))

pub returns-in_err-whole : goal.returns-in_err-whole
unfolding parts_tests
returns-in_err-whole c =
    let a = c.args in
    let is : c.whole.result ≡ whole_of (shape_of a.d) (gauge_of a.d) a.vol.now = c.whole.ensures ∙ rw (c.shape_of.ensures, c.gauge_of.ensures) in
    handed _ _ _ c.from_residual.ensures.1 c.in_err-whole.was
    ∙ is ∙ sym (stops _ _ (ap accepts (sym is) ∙ ap accepts c.in_err-whole.was))
