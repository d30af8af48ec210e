use mathlib.Core.Path.{◌∙◌}
use Rattle.limbs.proofs.Quads.{quad-num}
use Rattle.limbs.proofs.number.Goals as goal

pub returns : goal.returns
returns c =
    let a = c.args in
    record {
      whole =
          c.join.ensures.whole
          ∙ rw (c.load32-a.ensures, c.load32-b.ensures, c.load32-c.ensures, c.load32-d.ensures, quad-num a.m.now a.at c.requires);
      small = c.join.ensures.small;
    }
