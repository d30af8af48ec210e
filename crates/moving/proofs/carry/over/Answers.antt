use Rattle.moving.proofs.CarryLaws.{overs}
use Rattle.moving.proofs.carry.over.Goals as goal

pub returns : goal.returns
returns c =
    let a = c.args in
    overs a.d a.t a.vol.now c.shape_of.ensures c.copy_flakes.ensures c.carry_all.ensures c.build.ensures
