-- The tweak before and behind the cipher.
use Rattle.aes.specs.Code.{state_bytes}
use Rattle.xts.proofs.SectorCode.{block_is}
use Rattle.xts.proofs.block.Goals as goal

pub returns : goal.returns
returns g c =
    let a = c.args in
    block_is (g.C.Direction.turns a.cipher.now) (state_bytes a.t) a.p c.sum.ensures c.turn.ensures c.sum-2.ensures
