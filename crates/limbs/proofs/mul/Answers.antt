use mathlib.Core.Path.{◌∙◌}
use Rattle.limbs.proofs.TurnLaws.{products}
use Rattle.limbs.proofs.mul.Goals as goal

pub returns : goal.returns
returns c =
    record {
      same =
          c.carry.ensures.same
          ∙ products c.args.h c.args.by.five c.dot-d0.ensures.0 c.dot-d1.ensures.0 c.dot-d2.ensures.0 c.dot-d3.ensures.0 c.dot-d4.ensures.0;
      loose = c.carry.ensures.loose;
    }
