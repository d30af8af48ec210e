use Rattle.std.proofs.Common.{refl}
use Rattle.blake2s.specs.Compress.{iv}
use Rattle.blake2s.specs.Hash.{initial}
use Rattle.blake2s.proofs.first_chain.Goals as goal

pub returns : goal.returns
unfolding initial iv
returns c = refl
