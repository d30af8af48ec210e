-- No second outcome meets the words of a public function: each theorem is over its own `ensures`.
use mathlib.Core.Path.{refl}
use Rattle.base.specs.Outcome.{OneOutcome}
use Rattle.base.proofs.OutcomeLaws.{agree, ◌∥◌}
use Rattle.nuggets.proofs as fn
use Rattle.nuggets.specs.contracts as said

pub secret_for : OneOutcome said.secret_for.ended fn.secret_for.Reads.Post
secret_for κs a x y u v p q = (agree p q, refl)

pub lock_by : OneOutcome said.lock_by.ended fn.lock_by.Reads.Post
lock_by κs a x y u v p q = (agree p q, refl)

pub nugget_of : OneOutcome said.nugget_of.ended fn.nugget_of.Reads.Post
nugget_of κs a x y u v p q = (agree p q, refl)

pub flakes : OneOutcome said.flakes.ended fn.flakes.Reads.Post
flakes κs a x y u v p q = (agree p q, refl)

pub test_path : OneOutcome said.test_path.ended fn.test_path.Reads.Post
test_path κs a x y u v p q = (agree p q, refl)

pub test_read : OneOutcome said.test_read.ended fn.test_read.Reads.Post
test_read κs a x y u v p q = (agree p q, refl)

pub piece : OneOutcome said.piece.ended fn.piece.Reads.Post
piece κs a x y u v p q = (refl, refl ∥ refl ∥ refl ∥ refl ∥ refl ∥ agree p q ∥ refl)

pub touched : OneOutcome said.touched.ended fn.touched.Reads.Post
touched κs a x y u v p q = (agree p q, refl)

pub span_of : OneOutcome said.span_of.ended fn.span_of.Reads.Post
span_of κs a x y u v p q = (agree p.0 q.0, refl)

pub fits : OneOutcome said.fits.ended fn.fits.Reads.Post
fits κs a x y u v p q = (agree p q, refl)
