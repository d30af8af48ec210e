use Rattle.laying.proofs.FlakeLaws.{lay_is}
use Rattle.laying.proofs.ChangeLaws.{read_is}
use Rattle.laying.proofs.lay.Goals as goal

pub returns : goal.returns
returns g c =
    let a = c.args in
    lay_is a.d a.vol.now a.n a.way (g.S.Source.offset a.new.now) (g.S.Source.bytes a.new.now) (read_is a.vol.now a.n c.read-r.ensures c.shape_of.ensures) c.turn-after.ensures c.enciphers-mask.ensures c.lay_flakes.ensures
