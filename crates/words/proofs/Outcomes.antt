-- No second outcome meets the words of a public function: each theorem is over its own `ensures`.
use Prim.Native.Nat.{ℕ}
use mathlib.Core.Path.{refl}
use mir.Syntax.{w64}
use mir.Val.{Fits}
use denote.Param.{number}
use Rattle.base.specs.Outcome.{OneOutcome}
use Rattle.base.proofs.OutcomeLaws.{agree, ◌∥◌}
use Rattle.words.proofs as fn
use Rattle.words.specs.contracts as said

pub rotate_left : OneOutcome said.rotate_left.ended fn.rotate_left.Reads.Post
rotate_left κs a x y u v p q = (agree p q, refl)

pub rotate_right : OneOutcome said.rotate_right.ended fn.rotate_right.Reads.Post
rotate_right κs a x y u v p q = (agree p q, refl)

pub load : OneOutcome said.load.ended fn.load.Reads.Post
load κs a x y u v p q = (agree p.0 q.0, refl)

pub load32 : OneOutcome said.load32.ended fn.load32.Reads.Post
load32 κs a x y u v p q = (agree p q, refl)

pub store : OneOutcome said.store.ended fn.store.Reads.Post
store κs a x y u v p q = (refl, agree p q ∥ refl)

pub store32 : OneOutcome said.store32.ended fn.store32.Reads.Post
store32 κs a x y u v p q = (refl, agree p q ∥ refl)

pub copy : OneOutcome said.copy.ended fn.copy.Reads.Post
copy κs a x y u v p q = (refl, agree p q ∥ refl)

pub taken : (N : ℕ) (fits : Fits w64 N) → OneOutcome (said.taken.ended (number N)) (fn.taken.Reads.Post N fits)
taken N fits κs a x y u v p q = (agree p q, refl)

pub xor : OneOutcome said.xor.ended fn.xor.Reads.Post
xor κs a x y u v p q = (refl, agree p q ∥ refl)

pub equal : OneOutcome said.equal.ended fn.equal.Reads.Post
equal κs a x y u v p q = (agree p q, refl)

pub clear : OneOutcome said.clear.ended fn.clear.Reads.Post
clear κs a x y u v p q = (refl, agree p q ∥ refl)
