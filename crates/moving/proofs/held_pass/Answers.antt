use mathlib.Core.Path.{sym, ap, ◌∙◌}
use Rattle.answers.specs.Numbers.{accepts}
use Rattle.answers.proofs.StageLaws.{handed}
use Rattle.moving.specs.Move.{held_tests}
use Rattle.moving.proofs.AnswerLaws.{ascends_on, ascends_off, ascends_end, held_is}
use Rattle.moving.proofs.held_pass.Goals as goal

pub loop-n-preserved : goal.loop-n-preserved
loop-n-preserved c =
    let a = c.args in
    let l = c.loop-n in
    let test = held_tests a.d a.vol.now in
    let is = held_is a.d a.vol.now l.n c.shape_of-s.ensures c.nugget_of-g.ensures c.flakes.ensures in
    ascends_on test a.d.n l.n c.loop-n-test.true (ap accepts (sym is) ∙ ap accepts c.in_ok-flakes.was) ∙ l.invariant

pub returns-in_err-flakes : goal.returns-in_err-flakes
returns-in_err-flakes c =
    let a = c.args in
    let l = c.loop-n in
    let test = held_tests a.d a.vol.now in
    let is = held_is a.d a.vol.now l.n c.shape_of-s.ensures c.nugget_of-g.ensures c.flakes.ensures in
    handed _ _ _ c.from_residual.ensures.1 c.in_err-flakes.was ∙ is ∙ ascends_off test a.d.n l.n c.loop-n-test.true (ap accepts (sym is) ∙ ap accepts c.in_err-flakes.was) ∙ l.invariant

pub returns : goal.returns
returns c =
    let a = c.args in
    let l = c.loop-n in
    ascends_end (held_tests a.d a.vol.now) a.d.n l.n c.loop-n-test.false ∙ l.invariant
