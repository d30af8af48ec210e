use mathlib.Core.Path.{ap, ◌∙◌}
use mathlib.Core.Bool.{not}
use Prim.Native.Nat.{◌<◌}
use native.Mathlib.Omega.{arith}
use lib.ListN.{length, drop}
use Rattle.queues.specs.Queue.{writes_from}
use Rattle.queues.proofs.LoopLaws.{turn, lengths-next, ends-last, ends-on, ends-stop}
use Rattle.queues.proofs.write_all.Goals as goal

pub overflow_add-end : goal.overflow_add-end
overflow_add-end g c =
    let l = c.loop-i in
    let qs = g.R.Requests.listed c.args.rs.now in
    let h : l.i < length qs = omega (arith, c.loop-i-test.true, c.count-i-end.ensures) in
    omega (arith, lengths-next (turn qs l.i h c.request-q.ensures), l.invariant.room)

pub slice_bounds-write-end : goal.slice_bounds-write-end
slice_bounds-write-end g c =
    let l = c.loop-i in
    let qs = g.R.Requests.listed c.args.rs.now in
    let h : l.i < length qs = omega (arith, c.loop-i-test.true, c.count-i-end.ensures) in
    omega (arith, lengths-next (turn qs l.i h c.request-q.ensures), l.invariant.room)

pub loop-i-preserved : goal.loop-i-preserved
loop-i-preserved g c =
    let a = c.args in
    let l = c.loop-i in
    let qs = g.R.Requests.listed a.rs.now in
    let h : l.i < length qs = omega (arith, c.loop-i-test.true, c.count-i-end.ensures) in
    let e = turn qs l.i h c.request-q.ensures in
    let w = c.write-one in
    record {
      long = w.auto.vol ∙ l.invariant.long;
      room = omega (arith, lengths-next e, l.invariant.room);
      ends = ends-on (writes_from a.d a.vol.now qs a.bytes.now) e l.last l.vol a.bytes.now l.i l.at w.ensures.0 w.ensures.1
          (c.is_err.ensures.negation ∙ ap not c.if-is_err.false) l.invariant.ends;
    }

pub returns-then-is_err : goal.returns-then-is_err
returns-then-is_err g c =
    let a = c.args in
    let l = c.loop-i in
    let qs = g.R.Requests.listed a.rs.now in
    let h : l.i < length qs = omega (arith, c.loop-i-test.true, c.count-i-end.ensures) in
    let w = c.write-one in
    ends-stop (writes_from a.d a.vol.now qs a.bytes.now) (turn qs l.i h c.request-q.ensures) l.last l.vol a.bytes.now l.i l.at w.ensures.0 w.ensures.1
    (c.is_err.ensures.negation ∙ ap not c.if-is_err.true) c.queued_at.ensures l.invariant.ends

pub returns : goal.returns
returns g c =
    let a = c.args in
    let l = c.loop-i in
    let qs = g.R.Requests.listed a.rs.now in
    ends-last (writes_from a.d a.vol.now qs a.bytes.now) qs l.last l.vol (drop l.at a.bytes.now) l.i
    (omega (arith, c.loop-i-test.false, c.count-i-end.ensures)) (omega (arith, c.loop-i-test.false, c.count-i-end.ensures, c.count.ensures, l.auto.i-end)) c.queued_at-2.ensures l.invariant.ends
