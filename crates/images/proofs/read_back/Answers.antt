use Rattle.images.specs.Back.{answer_in}
use mathlib.Core.Path.{refl, ◌∙◌}
use Rattle.images.proofs.read_back.Goals as goal

pub returns : goal.returns
unfolding answer_in
returns c = c.refusal_in.ensures ∙ rw (c.load32-4.ensures, c.load32-3.ensures, c.load32-2.ensures, c.load32.ensures) refl
