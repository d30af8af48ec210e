-- No second outcome meets the words of a public function: each theorem is over its own `ensures`.
use mathlib.Core.Path.{◌≡◌, refl}
use mathlib.Core.HLevel.{is_prop→PathP}
use Rattle.std.proofs.Props.{props}
use Rattle.base.specs.Outcome.{OneOutcome}
use Rattle.base.proofs.OutcomeLaws.{agree}
use Rattle.poly1305.specs.declared.Authenticator.{Authenticator}
use Rattle.poly1305.specs.State.{GoodState}
use Rattle.poly1305.proofs as fn
use Rattle.poly1305.specs.contracts as said

-- what is known of a state beside its fields makes no second one of it
one : {x y : Authenticator} → x.state ≡ y.state → x ≡ y
one {x} {y} e = λ i. record { state = e i; good = is_prop→PathP (λ j. GoodState (e j)) (λ j. hlevel props) x.good y.good i }

pub start : OneOutcome said.start.ended fn.start.Reads.Post
start κs a x y u v p q = (one (agree p q), refl)

pub absorb : OneOutcome said.absorb.ended fn.absorb.Reads.Post
absorb κs a x y u v p q = (one (agree p q), refl)

pub finish : OneOutcome said.finish.ended fn.finish.Reads.Post
finish κs a x y u v p q = (agree p q, refl)
