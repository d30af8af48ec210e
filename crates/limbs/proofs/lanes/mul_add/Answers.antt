use mathlib.Core.Path.{◌∙◌}
use Prim.Native.Nat.{◌*◌}
use Rattle.limbs.specs.Limbs.{value}
use Rattle.limbs.proofs.TurnLaws.{products}
use Rattle.limbs.proofs.LaneLaws.{mul-added}
use Rattle.limbs.proofs.lanes.mul_add.Goals as goal

pub returns : goal.returns
returns c =
    let a = c.args in
    record {
      same =
          c.carry.ensures.same
          ∙ mul-added c.dot.result c.dot-2.result c.dot-3.result c.dot-4.result c.dot-d4.result a.n.lo a.n.hi (value a.h * value a.by.r)
          (products a.h a.by.five c.dot.ensures.0 c.dot-2.ensures.0 c.dot-3.ensures.0 c.dot-4.ensures.0 c.dot-d4.ensures.0);
      loose = c.carry.ensures.loose;
    }
