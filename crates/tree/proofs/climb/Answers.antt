use mathlib.Core.Path.{◌≡◌, sym, refl, ◌∙◌}
use native.Mathlib.Omega.{arith}
use Prim.Native.Nat.{◌-◌, ◌+◌, ◌<◌}
use Rattle.tree.proofs.Heights.{rises-some, rises_next}
use Rattle.tree.proofs.Steps.{climbed-on, climbed_off, climbed_end}
use Rattle.tree.proofs.climb.Goals as goal

pub loop-above-init : goal.loop-above-init
loop-above-init c = let e : c.args.count - 0 ≡ c.args.count = omega arith in rw e (c.requires.1, c.requires.2, refl)

pub good-requires : goal.good-requires
good-requires c = let l = c.loop-above in (c.requires.0, rises-some _ _ l.invariant.0 (omega (arith, c.loop-above-test.true)), l.invariant.1)

pub loop-above-preserved : goal.loop-above-preserved
loop-above-preserved c =
    let a = c.args in
    let l = c.loop-above in
    let e : a.count - (l._above + 1) ≡ a.count - l._above - 1 = omega arith in
    let h : 0 < a.count - l._above = omega (arith, c.loop-above-test.true) in
    rw e (
      rises_next _ _ l.invariant.0 h,
      omega (arith, l.invariant.1),
      climbed-on a.s a.vol.now (a.count - l._above) l.i h (sym c.good.ensures ∙ c.if-not-good.false) ∙ l.invariant.2,
    )

pub returns-then-not-good : goal.returns-then-not-good
returns-then-not-good c =
    let a = c.args in
    let l = c.loop-above in
    climbed_off a.s a.vol.now (a.count - l._above) l.i (omega (arith, c.loop-above-test.true)) (sym c.good.ensures ∙ c.if-not-good.true) ∙ l.invariant.2

pub returns : goal.returns
returns c =
    let a = c.args in
    let l = c.loop-above in
    climbed_end a.s a.vol.now (a.count - l._above) l.i (omega (arith, c.loop-above-test.false)) ∙ l.invariant.2
