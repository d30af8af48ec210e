use Rattle.blake2s.specs.Compress.{mix_at}
use Rattle.blake2s.proofs.rounds.mix_at.Goals as goal

pub returns : goal.returns
unfolding mix_at
returns c = rw c.mix_quad-q.ensures
