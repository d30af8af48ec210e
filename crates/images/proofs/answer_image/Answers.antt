use Rattle.words.specs.Le.{serialised}
use Rattle.images.specs.Answers.{answer_image}
use mathlib.Core.Path.{◌∙◌, refl}
use Rattle.images.proofs.answer_image.Goals as goal

pub returns : goal.returns
unfolding answer_image serialised
returns c = c.row.ensures ∙ rw (c.values.ensures, c.number.ensures, c.carried_by.ensures) refl
