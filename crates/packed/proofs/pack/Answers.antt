use Rattle.packed.proofs.ImageLaws.{image_of}
use mathlib.Core.Path.{◌∙◌}
use Rattle.packed.proofs.pack.Goals as goal

pub returns : goal.returns
returns c = c.whole_image.ensures ∙ rw (c.front_image-front.ensures, c.numbers_image-numbers.ensures, c.epoch_left.ensures, c.state_byte.ensures) (image_of _)
