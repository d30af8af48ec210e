-- No second outcome meets the words of a public function: each theorem is over its own `ensures`.
use mathlib.Core.Path.{refl}
use Rattle.base.specs.Outcome.{OneOutcome}
use Rattle.base.proofs.OutcomeLaws.{agree, ◌∥◌}
use Rattle.line.proofs.PageLaws.{put_alike}
use Rattle.pages.proofs as fn
use Rattle.pages.specs.contracts as said

pub put_nugget : OneOutcome said.put_nugget.ended fn.put_nugget.Reads.Post
put_nugget κs a x y u v p q = (refl, put_alike p q ∥ refl)

pub audit_page : OneOutcome said.audit_page.ended fn.audit_page.Reads.Post
audit_page κs a x y u v p q = (agree p.behind q.behind, refl ∥ refl ∥ agree p.stored q.stored ∥ refl)
