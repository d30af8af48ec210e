-- Both expansions, the tweak, 32 blocks.
use Rattle.xts.proofs.SectorCode.{sector_back_is}
use Rattle.xts.proofs.decrypt_sector.Goals as goal

pub returns : goal.returns
returns c =
    let a = c.args in
    sector_back_is a.one a.two a.i a.d.now c.expand-dw.ensures c.expand-v.ensures c.tweak.ensures
    c.decrypt_from.ensures
