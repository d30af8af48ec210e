use Rattle.relaying.proofs.Zones.{beside_laid}
use mathlib.Core.Path.{refl}
use Rattle.relaying.proofs.lay_beside.Goals as goal

pub returns : goal.returns
returns c =
    let a = c.args in
    let pre = c.requires in
    beside_laid a.at a.end a.x.now a.k.now pre.0 pre.1 pre.2 _ c.xor.ensures refl c.xor-2.ensures
