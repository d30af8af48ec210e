use Rattle.blake2s.specs.Compress.{mix}
use Rattle.blake2s.proofs.rounds.mix_quad.Goals as goal

pub returns : goal.returns
unfolding mix
returns c = simp (c.rotate_right-b.ensures, c.rotate_right-d.ensures, c.rotate_right-b1.ensures, c.rotate_right-d1.ensures)
