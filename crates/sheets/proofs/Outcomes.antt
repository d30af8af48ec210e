-- No second outcome meets the words of a public function: each theorem is over its own `ensures`.
use mathlib.Core.Path.{refl}
use Rattle.base.specs.Outcome.{OneOutcome}
use Rattle.base.proofs.OutcomeLaws.{agree, ◌∥◌}
use Rattle.sheets.proofs as fn
use Rattle.sheets.specs.contracts as said

pub put_report : OneOutcome said.put_report.ended fn.put_report.Reads.Post
put_report κs a x y u v p q = (agree p.behind q.behind, agree p.stored q.stored ∥ refl)

pub put_mounted : OneOutcome said.put_mounted.ended fn.put_mounted.Reads.Post
put_mounted κs a x y u v p q = (agree p.behind q.behind, agree p.stored q.stored ∥ refl)

pub mounted : OneOutcome said.mounted.ended fn.mounted.Reads.Post
mounted κs a x y u v p q = (agree p q, refl)

pub sheet_line : OneOutcome said.sheet_line.ended fn.sheet_line.Reads.Post
sheet_line κs a x y u v p q = (agree p.behind q.behind, refl ∥ refl ∥ agree p.stored q.stored ∥ refl)

pub is_sized : OneOutcome said.is_sized.ended fn.is_sized.Reads.Post
is_sized κs a x y u v p q = (agree p q, refl)
