use mathlib.Core.List.{List}
use Prim.Native.Nat.{ℕ}
use mathlib.Core.Path.{ap, ◌∙◌}
use lib.Seq.{sets}
use Rattle.words.proofs.OwnBytes.{le_four}
use Rattle.words.proofs.store32.Goals as goal

pub returns : goal.returns
returns c = c.copy.ensures ∙ ap (λ (l : List ℕ). sets c.args.s.now c.args.at l) (c.to_le_bytes.ensures ∙ le_four c.args.x)
