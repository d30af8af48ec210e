use Rattle.blake2s.specs.Compress.{round}
use Rattle.blake2s.proofs.rounds.one_round.Goals as goal

pub returns : goal.returns
unfolding round
returns c = cc
