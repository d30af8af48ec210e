-- No second outcome meets the words of a public function: each theorem is over its own `ensures`.
use mathlib.Core.Path.{refl}
use Rattle.base.specs.Outcome.{OneOutcome}
use Rattle.base.proofs.OutcomeLaws.{agree}
use Prim.Native.Nat.{ℕ}
use mir.Syntax.{w64}
use mir.Val.{Fits}
use denote.Param.{number}
use Rattle.images.proofs as fn
use Rattle.images.specs.contracts as said

pub row : (N : ℕ) (fits : Fits w64 N) → OneOutcome (said.row.ended (number N)) (fn.row.Reads.Post N fits)
row N fits κs a x y u v p q = (agree p q, refl)

pub answer_image : OneOutcome said.answer_image.ended fn.answer_image.Reads.Post
answer_image κs a x y u v p q = (agree p q, refl)

pub answer_in : OneOutcome said.answer_in.ended fn.answer_in.Reads.Post
answer_in κs a x y u v p q = (agree p q, refl)
