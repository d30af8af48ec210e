-- No second outcome meets the words of a public function: each theorem is over its own `ensures`.
use mathlib.Core.Path.{refl}
use mathlib.Core.List.{List}
use Prim.Native.Nat.{ℕ}
use Rattle.base.specs.Outcome.{OneOutcome, OneSeen}
use Rattle.base.proofs.OutcomeLaws.{agree, ◌∥◌}
use Rattle.line.proofs.PageLaws.{put_alike}
use Rattle.line.proofs as fn
use Rattle.line.specs.contracts as said

pub width : OneOutcome said.width.ended fn.width.Reads.Post
width κs a x y u v p q = (agree p q, refl)

pub Page_written : OneSeen said.Page.written.ended (λ κs. (ℕ × ℕ) × List ℕ) (λ κs r. (r.ref_ptr, r.now)) fn.Page.written.Reads.Post
Page_written κs a x y u v p q = (λ i. (agree p.1 q.1 i, agree p.0 q.0 i), refl)

pub Page_put : OneOutcome said.Page.put.ended fn.Page.put.Reads.Post
Page_put κs a x y u v p q = (refl, put_alike p q ∥ refl)

pub Page_put_long : OneOutcome said.Page.put_long.ended fn.Page.put_long.Reads.Post
Page_put_long κs a x y u v p q = (refl, put_alike p q ∥ refl)

pub Page_put_field : OneOutcome said.Page.put_field.ended fn.Page.put_field.Reads.Post
Page_put_field κs a x y u v p q = (refl, put_alike p q ∥ refl)

pub Page_report_text : OneOutcome said.Page.report_text.ended fn.Page.report_text.Reads.Post
Page_report_text κs a x y u v p q = (refl, put_alike p q ∥ refl)

pub report_line : OneOutcome said.report_line.ended fn.report_line.Reads.Post
report_line κs a x y u v p q = (agree p.behind q.behind, agree p.stored q.stored ∥ refl)

pub refusal_line : OneOutcome said.refusal_line.ended fn.refusal_line.Reads.Post
refusal_line κs a x y u v p q = (agree p.behind q.behind, agree p.stored q.stored ∥ refl)
