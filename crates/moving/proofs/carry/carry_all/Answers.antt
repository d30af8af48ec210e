use Rattle.moving.proofs.CarryLaws.{none-carried, next-carried}
use Rattle.moving.proofs.carry.carry_all.Goals as goal

pub loop-n-init : goal.loop-n-init
loop-n-init c = let a = c.args in none-carried a.d a.t a.vol.now a.second.now

pub loop-n-preserved : goal.loop-n-preserved
loop-n-preserved c =
    let a = c.args in
    let l = c.loop-n in
    next-carried a.d a.t a.vol.now l.n a.second.now l.invariant c.carry_nugget.ensures
