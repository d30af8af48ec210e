use mathlib.Core.Path.{ap, ◌∙◌}
use Rattle.limbs.specs.Limbs.{limbs_of}
use Rattle.limbs.proofs.Quads.{quad-num}
use Rattle.poly1305.proofs.number.Goals as goal

pub returns : goal.returns
returns c = let a = c.args in
    c.pack.ensures
    ∙ ap limbs_of
    (rw (c.load32-w0.ensures, c.load32-w1.ensures, c.load32-w2.ensures, c.load32-w3.ensures) (quad-num a.b.now a.at c.requires))
