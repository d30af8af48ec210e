use mathlib.Core.Path.{◌∙◌}
use native.Mathlib.Omega.{arith}
use Rattle.queues.proofs.LoopLaws.{turn, adds-over, adds-on, adds-end}
use Rattle.queues.proofs.add_up.Goals as goal

pub returns-then-left-q : goal.returns-then-left-q
returns-then-left-q g c =
    let l = c.loop-i in
    let qs = g.R.Requests.listed c.args.rs.now in
    adds-over (turn qs l.i (omega (arith, c.loop-i-test.true, c.count-i-end.ensures)) c.request-q.ensures) l.left c.if-left-q.true ∙ l.invariant

pub loop-i-preserved : goal.loop-i-preserved
loop-i-preserved g c =
    let l = c.loop-i in
    let qs = g.R.Requests.listed c.args.rs.now in
    adds-on (turn qs l.i (omega (arith, c.loop-i-test.true, c.count-i-end.ensures)) c.request-q.ensures) l.left c.if-left-q.false ∙ l.invariant

pub returns : goal.returns
returns g c =
    let l = c.loop-i in
    let qs = g.R.Requests.listed c.args.rs.now in
    adds-end qs l.i l.left (omega (arith, c.loop-i-test.false, c.count-i-end.ensures)) ∙ l.invariant
