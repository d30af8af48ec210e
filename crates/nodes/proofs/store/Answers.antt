use mathlib.Core.Path.{ap, ◌∙◌}
use native.Mathlib.Omega.{arith}
use lib.ListN.{length}
use Rattle.layout.proofs.Limits.{inside}
use Rattle.nodes.proofs.HashLaws.{stored}
use Rattle.nodes.proofs.Bounds.{node-fits}
use Rattle.nodes.proofs.MadeLaws.{length-made}
use Rattle.nodes.proofs.store.Goals as goal

pub copy-requires : goal.copy-requires
copy-requires c =
    let a = c.args in
    let l = c.requires.0 in
    let e = ap length c.made-m.ensures ∙ length-made _ _ _ in
    omega (arith, e, node-fits a.i l c.requires.2, c.node_at-at.ensures ∙ inside a.s l.limited)

pub returns : goal.returns
returns c =
    let a = c.args in
    let l = c.requires.0 in
    stored a.s a.vol.now a.i c.copy.ensures (c.node_at-at.ensures ∙ inside a.s l.limited) c.made-m.ensures
