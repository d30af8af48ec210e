use mathlib.Core.Path.{◌≡◌, ap, ◌∙◌}
use Prim.Native.Nat.{ℕ}
use Rattle.layout.specs.Parts.{flakes_at}
use Rattle.layout.specs.Spots.{capacity}
use Rattle.layout.proofs.Limits.{placed}
use Rattle.drive.specs.Drive.{zeros}
use Rattle.moving.proofs.CarryLaws.{copies}
use Rattle.moving.proofs.carry.copy_flakes.Goals as goal

pub returns : goal.returns
returns c =
    let a = c.args in
    let pre = c.requires in
    let s = a.s in
    let from : c.flakes_at-from.result ≡ flakes_at s = placed s pre.0.limited c.flakes_at-from.ensures in
    let size : c.capacity_of.result ≡ capacity s = placed s pre.0.limited c.capacity_of.ensures in
    let to : c.flakes_at-at.result ≡ flakes_at a.t = placed a.t pre.1.limited c.flakes_at-at.ensures in
    copies s a.t a.vol.now (c.clear.ensures ∙ ap (λ (k : ℕ). zeros k) pre.1.size) from size to c.copy.ensures
