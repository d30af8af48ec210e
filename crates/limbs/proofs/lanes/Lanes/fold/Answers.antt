use native.Mathlib.Omega.{arith}
use mathlib.Core.Path.{ap, ◌∙◌}
use Prim.Native.Nat.{ℕ, ◌%◌}
use lib.ListN.{replicate}
use Rattle.limbs.specs.Limbs.{value, p}
use Rattle.limbs.specs.Bounds.{steps_by}
use Rattle.limbs.proofs.TurnLaws.{sums_value}
use Rattle.limbs.proofs.GroupLaws.{gathered_none, gathered_more, gathered_all}
use Rattle.limbs.proofs.lanes.Lanes.fold.Goals as goal

pub loop-l-init : goal.loop-l-init
loop-l-init c = let z = c.default-x.ensures in
    (record { b0 = omega arith; b1 = omega arith; b2 = omega arith; b3 = omega arith; b4 = omega arith }, rw (z.0, z.1.0, z.1.1.0, z.1.1.1.0, z.1.1.1.1) (gathered_none _ _))

pub loop-l-preserved : goal.loop-l-preserved
loop-l-preserved c =
    let t = c.loop-l in
    let a = c.args in
    let n = c.get in
    let r = value a.by.r in (
      c.run-x.ensures.loose,
      gathered_more r (value t.x) t.l (value c.run-x.result) (value n.result) a.self.now.limbs (ap value n.ensures) t.invariant.1
          (c.run-x.ensures.same ∙ ap (λ (z : ℕ). steps_by 0 1 r (z % p) (replicate 16 0)) (sums_value c.add.ensures)),
    )

pub returns : goal.returns
returns c =
    let t = c.loop-l in
    let a = c.args in
    record { same = t.invariant.1 ∙ gathered_all (value a.by.r) t.l a.self.now.limbs (omega arith); loose = t.invariant.0 }
