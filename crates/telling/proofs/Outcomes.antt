-- No second outcome meets the words of a public function: each theorem is over its own `ensures`.
use mathlib.Core.Path.{◌≡◌, refl}
use mathlib.Core.List.{List}
use Prim.Native.Nat.{ℕ}
use Rattle.answers.specs.Answer.{Answer}
use Rattle.base.specs.Outcome.{OneOutcome}
use Rattle.base.proofs.OutcomeLaws.{agree, ◌∥◌}
use Rattle.telling.specs.declared.Told.{Told}
use Rattle.telling.specs.Told.{Telling}
use Rattle.telling.proofs as fn
use Rattle.telling.specs.contracts as said

-- answer and count are all that is told
one : {a : Answer} {text s x y : List ℕ} (t u : Told) → Telling a text s t x → Telling a text s u y → t ≡ u
one t u p q = rw (p.answers, q.answers, p.put.behind, q.put.behind) refl

pub refusal_line : OneOutcome said.refusal_line.ended fn.refusal_line.Reads.Post
refusal_line κs a x y u v p q = (agree p.behind q.behind, refl ∥ agree p.stored q.stored ∥ refl)

pub sheet_line : OneOutcome said.sheet_line.ended fn.sheet_line.Reads.Post
sheet_line κs a x y u v p q = (one _ _ p q, refl ∥ refl ∥ agree p.put.stored q.put.stored ∥ refl)

pub nugget_line : OneOutcome said.nugget_line.ended fn.nugget_line.Reads.Post
nugget_line κs a x y u v p q = (one _ _ p q, refl ∥ refl ∥ refl ∥ agree p.put.stored q.put.stored ∥ refl)
