-- No second outcome meets the words of a public function: each theorem is over its own `ensures`.
use mathlib.Core.Path.{refl}
use Rattle.base.specs.Outcome.{OneOutcome}
use Rattle.base.proofs.OutcomeLaws.{agree, ◌∥◌}
use Rattle.line.proofs.PageLaws.{put_alike}
use Rattle.standings.proofs.ReadingLaws.{drop_apart}
use Rattle.standings.proofs as fn
use Rattle.standings.specs.contracts as said

pub reading_find : OneOutcome said.reading.find.ended fn.reading.find.Reads.Post
reading_find κs a x y u v p q = (agree p q, refl)

pub reading_behind : OneOutcome said.reading.behind.ended fn.reading.behind.Reads.Post
reading_behind κs a x y u v p q = (drop_apart _ p.0 q.0 (agree p.1 q.1), refl)

pub put_standing : OneOutcome said.put_standing.ended fn.put_standing.Reads.Post
put_standing κs a x y u v p q = (refl, put_alike p q ∥ refl)

pub found_in : OneOutcome said.found_in.ended fn.found_in.Reads.Post
found_in κs a x y u v p q = (agree p q, refl)
