use Rattle.blake2s.specs.Compress as F
use Rattle.blake2s.proofs.rounds.compress.Goals as goal

pub returns : goal.returns
unfolding F.compress
returns c = simp (c.join.ensures, c.ten_rounds-v.ensures, c.start_vector.ensures, c.words_of-m.ensures)
