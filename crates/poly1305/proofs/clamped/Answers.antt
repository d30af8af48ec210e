use native.Mathlib.Omega.{arith}
use mathlib.Core.Path.{ap, ◌∙◌}
use Rattle.limbs.specs.Limbs.{limbs_of}
use Rattle.limbs.proofs.Quads.{quad-num}
use Rattle.poly1305.specs.Poly1305.{clamp}
use Rattle.poly1305.proofs.Laws.{clamp-quad}
use Rattle.poly1305.proofs.clamped.Goals as goal

pub returns : goal.returns
returns c = let a = c.load32-a in
    let b = c.load32-b in
    let w = c.load32-c in
    let d = c.load32-d in
    c.pack.ensures
    ∙ ap limbs_of
    (clamp-quad a.result b.result w.result d.result (omega (arith, a.type_inv)) (omega (arith, b.type_inv)) (omega (arith, w.type_inv))
    ∙ ap clamp (rw (a.ensures, b.ensures, w.ensures, d.ensures) (quad-num c.args.key.now 0 c.requires)))
