-- Both expansions, the tweak, 32 blocks.
use Rattle.xts.proofs.SectorCode.{sector_is}
use Rattle.xts.proofs.encrypt_sector.Goals as goal

pub returns : goal.returns
returns c =
    let a = c.args in
    sector_is a.one a.two a.i a.d.now c.expand-w.ensures c.expand-v.ensures c.tweak.ensures
    c.encrypt_from.ensures
