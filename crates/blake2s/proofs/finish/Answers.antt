use Rattle.std.proofs.Common.{refl}
use Rattle.blake2s.proofs.StreamLaws.{finish_is}
use Rattle.blake2s.proofs.finish.Goals as goal

pub returns : goal.returns
returns c = finish_is c.args.s _ _ _ _ _ c.min-fill.ensures refl c.pad-block.ensures c.compress.ensures c.bytes_of.ensures
