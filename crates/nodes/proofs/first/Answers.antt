use Rattle.nodes.proofs.Bounds.{node-fits}
use Rattle.layout.proofs.Height.{leaves-some}
use Rattle.layout.proofs.Limits.{placed}
use Rattle.layout.specs.Parts.{node_at}
use Rattle.base.specs.Lists.{part}
use Prim.Native.Nat.{ℕ}
use native.Mathlib.Omega.{arith}
use mathlib.Core.Path.{◌≡◌, ap, ◌∙◌}
use Rattle.nodes.proofs.first.Goals as goal

pub taken-requires : goal.taken-requires
taken-requires c =
    let s = c.args.s in
    let at : c.node_at.result ≡ node_at s 1 = placed s c.requires.limited c.node_at.ensures in
    omega (arith, at, node-fits 1 c.requires (omega (arith, leaves-some s.n)))

pub returns : goal.returns
returns c =
    let s = c.args.s in
    c.taken.ensures ∙ ap (λ (x : ℕ). part x 32 c.args.vol.now) (placed s c.requires.limited c.node_at.ensures)
