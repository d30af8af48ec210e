use native.Mathlib.Omega.{arith}
use mathlib.Core.Path.{◌≡◌, ap, ◌∙◌}
use Prim.Native.Nat.{ℕ, ◌*◌, ◌%◌, ◌^◌}
use Rattle.limbs.specs.Limbs.{value, p}
use Rattle.limbs.specs.Bounds.{steps_by}
use Rattle.limbs.proofs.GroupLaws.{power_is, first_lanes, more_lanes, turned-fits}
use Rattle.limbs.proofs.lanes.run_four.Goals as goal

pub loop-i-preserved : goal.loop-i-preserved
loop-i-preserved c =
    let t = c.loop-i in
    let a = c.args in
    let r = value a.by.r in
    let q = c.level-q in
    let power = ap (λ x. value x % p) c.new-fourth.ensures ∙ c.run.ensures.same ∙ power_is r in (
      turned-fits _ _ _ _ _ c.turn.ensures,
      (λ x e. more_lanes r x t.i a.m.now q.result.limbs t.h.limbs _ power q.ensures c.turn.ensures (t.invariant.1 x e)),
    )

pub returns : goal.returns
returns c =
    let t = c.loop-i in
    let a = c.args in
    let r = value a.by.r in
    let x = value a.a % p in
    let done : t.i ≡ a.g = omega arith in
    record {
      same = c.fold.ensures.same ∙ t.invariant.1 x (first_lanes r a.m.now c.first-h.result.limbs c.first-h.ensures) ∙ ap (λ (n : ℕ). steps_by (2 ^ 24) (4 * n) r x a.m.now) done;
      loose = c.fold.ensures.loose;
    }
