use mathlib.Core.Path.{sym, ap, ◌∙◌}
use Rattle.answers.specs.Numbers.{accepts}
use Rattle.moving.specs.Move.{kept_tests}
use Rattle.moving.proofs.AnswerLaws.{ascends_on, ascends_off, ascends_end, kept_is, kept_not}
use Rattle.moving.proofs.all_kept.Goals as goal

pub loop-n-preserved : goal.loop-n-preserved
loop-n-preserved c =
    let a = c.args in
    let l = c.loop-n in
    let is = kept_is a.s a.vol.now l.n c.read-r.ensures c.if-r.false in
    ascends_on (kept_tests a.s a.vol.now) a.s.n l.n c.loop-n-test.true (ap accepts is) ∙ l.invariant

pub returns-then-r : goal.returns-then-r
returns-then-r c =
    let a = c.args in
    let l = c.loop-n in
    let is = kept_not a.s a.vol.now l.n c.read-r.ensures c.if-r.true in
    is ∙ ascends_off (kept_tests a.s a.vol.now) a.s.n l.n c.loop-n-test.true (ap accepts (sym is)) ∙ l.invariant

pub returns : goal.returns
returns c =
    let a = c.args in
    let l = c.loop-n in
    ascends_end (kept_tests a.s a.vol.now) a.s.n l.n c.loop-n-test.false ∙ l.invariant
