use Rattle.moving.proofs.CarryLaws.{carries}
use Rattle.moving.proofs.carry.carry_nugget.Goals as goal

pub returns : goal.returns
returns c =
    let a = c.args in
    carries a.d a.t a.vol.now a.n a.second.now c.shape_of-s.ensures c.read-r.ensures c.store.ensures c.secret_for-secret.ensures c.lock_by.ensures c.carry_tags.ensures
