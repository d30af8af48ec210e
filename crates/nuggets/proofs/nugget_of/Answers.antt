use Rattle.nuggets.proofs.TestLaws.{nugget_is}
use Rattle.nuggets.proofs.nugget_of.Goals as goal

pub read-r-requires : goal.read-r-requires
read-r-requires c = rw c.shape_of-s.ensures (c.requires.0, c.requires.1)

pub returns : goal.returns
returns c =
    let a = c.args in
    nugget_is a.d a.vol.now a.n c.shape_of-s.ensures c.read-r.ensures c.secret_for-secret.ensures c.lock_by.ensures
