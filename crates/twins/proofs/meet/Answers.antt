use mathlib.Core.Path.{◌≡◌, refl, ◌∙◌}
use Prim.Native.Nat.{◌+◌, ◌-◌, ◌<◌}
use native.Mathlib.Omega.{arith}
use Rattle.layout.specs.Shape.{height_of}
use Rattle.layout.proofs.Limits.{lent_small}
use Rattle.tree.proofs.Heights.{rises-leaf}
use Rattle.twins.proofs.MeetLaws.{node_same, agreeing-here, agreeing-on, agreeing_end, rises-on}
use Rattle.twins.proofs.meet.Goals as goal

pub overflow_cast-i : goal.overflow_cast-i
overflow_cast-i c = omega (arith, c.leaves_of.ensures, (lent_small c.requires.0).few_leaves)

pub overflow_add-i : goal.overflow_add-i
overflow_add-i c =
    let q = lent_small c.requires.0 in
    omega (arith, c.leaves_of.ensures, q.few_leaves, q.few_nuggets, c.requires.2)

pub loop-above-init : goal.loop-above-init
loop-above-init c =
    let a = c.args in
    let q = lent_small c.requires.0 in
    let e : height_of a.s.n - 0 ≡ height_of a.s.n = omega arith in
    rw (e, c.leaves_of.ensures) (rises-leaf a.s a.n q c.requires.2, omega (arith, q.enough_leaves, c.requires.2), refl)

pub returns-then-equal : goal.returns-then-equal
returns-then-equal c =
    let a = c.args in
    let l = c.loop-above in
    let h : 0 < height_of a.s.n - l._above = omega (arith, c.loop-above-test.true, c.height_of-above-end.ensures) in
    agreeing-here a.s a.first.now a.second.now (height_of a.s.n - l._above) l.i h (node_same a.s a.first.now a.second.now l.i c.node_bytes.ensures c.node_bytes-in-loop-above.ensures c.equal.ensures ∙ c.if-equal.true)
    ∙ l.invariant.2

pub loop-above-preserved : goal.loop-above-preserved
loop-above-preserved c =
    let a = c.args in
    let l = c.loop-above in
    let h : 0 < height_of a.s.n - l._above = omega (arith, c.loop-above-test.true, c.height_of-above-end.ensures) in
    let e : height_of a.s.n - (l._above + 1) ≡ height_of a.s.n - l._above - 1 = omega arith in
    rw e (
      rises-on (height_of a.s.n - l._above) l.i h l.invariant.0,
      omega (arith, l.invariant.1),
      agreeing-on a.s a.first.now a.second.now (height_of a.s.n - l._above) l.i h (node_same a.s a.first.now a.second.now l.i c.node_bytes.ensures c.node_bytes-in-loop-above.ensures c.equal.ensures ∙ c.if-equal.false)
          ∙ l.invariant.2,
    )

pub returns : goal.returns
returns c =
    let a = c.args in
    let l = c.loop-above in
    agreeing_end a.s a.first.now a.second.now (height_of a.s.n - l._above) l.i (omega (arith, c.loop-above-test.false, c.height_of-above-end.ensures)) ∙ l.invariant.2
