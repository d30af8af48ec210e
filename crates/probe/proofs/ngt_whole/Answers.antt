use Rattle.images.specs.Answers.{answer_image}
use mathlib.Core.Path.{refl, ◌∙◌, ap}
use Rattle.probe.proofs.ngt_whole.Goals as goal

pub returns : goal.returns
returns c = c.answer_image.ensures ∙ ap answer_image c.whole-a.ensures ∙ rw c.shape.ensures refl
