use Rattle.drive.proofs.HeadLaws.{front_pieces_lem}
use mathlib.Core.Path.{◌∙◌}
use Rattle.drive.proofs.front.Goals as goal

pub returns : goal.returns
returns c = c.front_of.ensures ∙ rw (c.numbers_of-numbers.ensures, c.from.ensures, c.from-2.ensures, c.state_byte.ensures, c.check_in-check.ensures) (front_pieces_lem _)
