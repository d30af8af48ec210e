-- The number, lowest byte first, and zeros.
use Rattle.xts.proofs.SectorCode.{tweak_is}
use Rattle.xts.proofs.tweak.Goals as goal

pub returns : goal.returns
returns c =
    let a = c.args in
    tweak_is a.w.now a.i c.store.ensures c.encrypt.ensures
