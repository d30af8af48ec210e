-- No second outcome meets the words of a public function: each theorem is over its own `ensures`.
use mathlib.Core.Path.{refl}
use Rattle.base.specs.Outcome.{OneOutcome}
use Rattle.base.proofs.OutcomeLaws.{agree, ◌∥◌}
use Rattle.records.proofs as fn
use Rattle.records.specs.contracts as said

pub read : OneOutcome said.read.ended fn.read.Reads.Post
read κs a x y u v p q = (agree p q, refl)

pub store : OneOutcome said.store.ended fn.store.Reads.Post
store κs a x y u v p q = (refl, agree p q ∥ refl)

pub has : OneOutcome said.has.ended fn.has.Reads.Post
has κs a x y u v p q = (agree p q, refl)

pub join : OneOutcome said.join.ended fn.join.Reads.Post
join κs a x y u v p q = (agree p q, refl)

pub share_none : OneOutcome said.share_none.ended fn.share_none.Reads.Post
share_none κs a x y u v p q = (agree p q, refl)

pub all : OneOutcome said.all.ended fn.all.Reads.Post
all κs a x y u v p q = (agree p q, refl)

pub range : OneOutcome said.range.ended fn.range.Reads.Post
range κs a x y u v p q = (agree p q, refl)

pub count : OneOutcome said.count.ended fn.count.Reads.Post
count κs a x y u v p q = (agree p q, refl)

pub well_formed : OneOutcome said.well_formed.ended fn.well_formed.Reads.Post
well_formed κs a x y u v p q = (agree p q, refl)

pub way_of : OneOutcome said.way_of.ended fn.way_of.Reads.Post
way_of κs a x y u v p q = (agree p q, refl)

pub range_of : OneOutcome said.range_of.ended fn.range_of.Reads.Post
range_of κs a x y u v p q = (agree p q, refl)

pub is_rekey : OneOutcome said.is_rekey.ended fn.is_rekey.Reads.Post
is_rekey κs a x y u v p q = (agree p q, refl)

pub enciphers : OneOutcome said.enciphers.ended fn.enciphers.Reads.Post
enciphers κs a x y u v p q = (agree p q, refl)

pub turn : OneOutcome said.turn.ended fn.turn.Reads.Post
turn κs a x y u v p q = (agree p q, refl)
