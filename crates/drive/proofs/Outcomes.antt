-- No second outcome meets the words of a public function: each theorem is over its own `ensures`.
use mathlib.Core.Path.{refl}
use Rattle.base.specs.Outcome.{OneOutcome}
use Rattle.base.proofs.OutcomeLaws.{agree}
use Rattle.drive.proofs as fn
use Rattle.drive.specs.contracts as said

pub blank : OneOutcome said.blank.ended fn.blank.Reads.Post
blank κs a x y u v p q = (agree p q, refl)

pub shape_of : OneOutcome said.shape_of.ended fn.shape_of.Reads.Post
shape_of κs a x y u v p q = (agree p q, refl)

pub is_changing : OneOutcome said.is_changing.ended fn.is_changing.Reads.Post
is_changing κs a x y u v p q = (agree p q, refl)

pub gauge_of : OneOutcome said.gauge_of.ended fn.gauge_of.Reads.Post
gauge_of κs a x y u v p q = (agree p q, refl)

pub headed : OneOutcome said.headed.ended fn.headed.Reads.Post
headed κs a x y u v p q = (agree p q, refl)

pub kept_old : OneOutcome said.kept_old.ended fn.kept_old.Reads.Post
kept_old κs a x y u v p q = (agree p q, refl)

pub state_byte : OneOutcome said.state_byte.ended fn.state_byte.Reads.Post
state_byte κs a x y u v p q = (agree p q, refl)

pub check_in : OneOutcome said.check_in.ended fn.check_in.Reads.Post
check_in κs a x y u v p q = (agree p q, refl)

pub front : OneOutcome said.front.ended fn.front.Reads.Post
front κs a x y u v p q = (agree p q, refl)

pub head : OneOutcome said.head.ended fn.head.Reads.Post
head κs a x y u v p q = (agree p q, refl)

pub state_fits : OneOutcome said.state_fits.ended fn.state_fits.Reads.Post
state_fits κs a x y u v p q = (agree p q, refl)

pub in_form : OneOutcome said.in_form.ended fn.in_form.Reads.Post
in_form κs a x y u v p q = (agree p q, refl)

pub measure : OneOutcome said.measure.ended fn.measure.Reads.Post
measure κs a x y u v p q = (agree p q, refl)

pub opening : OneOutcome said.opening.ended fn.opening.Reads.Post
opening κs a x y u v p q = (agree p q, refl)
