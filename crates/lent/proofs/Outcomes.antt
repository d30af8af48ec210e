-- No second outcome meets the words of a call on a lent drive: each theorem is over its own `ensures`.
use mathlib.Core.Path.{refl}
use mathlib.Core.List.{List}
use Prim.Native.Nat.{ℕ}
use Rattle.base.specs.Outcome.{OneOutcome, OneSeen}
use Rattle.base.proofs.OutcomeLaws.{agree, ◌∥◌}
use Rattle.lent.proofs as fn
use Rattle.lent.specs.contracts as said

pub format_at : OneOutcome said.format_at.ended fn.format_at.Reads.Post
format_at κs a x y u v p q = (agree p.0 q.0, agree p.1.0 q.1.0 ∥ agree p.1.1 q.1.1 ∥ refl)

pub mount_at : OneOutcome said.mount_at.ended fn.mount_at.Reads.Post
mount_at κs a x y u v p q = (agree p.0 q.0, agree p.1 q.1 ∥ refl)

pub read_at : OneOutcome said.read_at.ended fn.read_at.Reads.Post
read_at κs a x y u v p q = (agree p.0 q.0, refl ∥ refl ∥ refl ∥ agree p.1 q.1 ∥ refl)

pub report_at : OneOutcome said.report_at.ended fn.report_at.Reads.Post
report_at κs a x y u v p q = (agree p q, refl)

pub stored_flake_answer_at : OneOutcome said.stored_flake_answer_at.ended fn.stored_flake_answer_at.Reads.Post
stored_flake_answer_at κs a x y u v p q = (agree p q, refl)

pub stored_flake_at : OneSeen said.stored_flake_at.ended (λ κs. (ℕ × ℕ) × List ℕ) (λ κs r. (r.ref_ptr, r.now)) fn.stored_flake_at.Reads.Post
stored_flake_at κs a x y u v p q = (agree p.1 q.1 ∥ agree p.0 q.0, refl)

pub write_at : OneOutcome said.write_at.ended fn.write_at.Reads.Post
write_at κs a x y u v p q = (agree p.0 q.0, agree p.1.0 q.1.0 ∥ agree p.1.1 q.1.1 ∥ refl)

pub export_at : OneOutcome said.export_at.ended fn.export_at.Reads.Post
export_at κs a x y u v p q = (agree p.0 q.0, refl ∥ refl ∥ refl ∥ refl ∥ agree p.1 q.1 ∥ refl)

pub import_at : OneOutcome said.import_at.ended fn.import_at.Reads.Post
import_at κs a x y u v p q = (agree p.0 q.0, agree p.1.0 q.1.0 ∥ agree p.1.1 q.1.1 ∥ refl)

pub begin_at : OneOutcome said.begin_at.ended fn.begin_at.Reads.Post
begin_at κs a x y u v p q = (agree p.0 q.0, agree p.1.0 q.1.0 ∥ agree p.1.1 q.1.1 ∥ refl)

pub sweep_at : OneOutcome said.sweep_at.ended fn.sweep_at.Reads.Post
sweep_at κs a x y u v p q = (agree p.0 q.0, agree p.1.0 q.1.0 ∥ agree p.1.1 q.1.1 ∥ refl)

pub discard_at : OneOutcome said.discard_at.ended fn.discard_at.Reads.Post
discard_at κs a x y u v p q = (agree p.0 q.0, agree p.1.0 q.1.0 ∥ agree p.1.1 q.1.1 ∥ refl)

pub finish_at : OneOutcome said.finish_at.ended fn.finish_at.Reads.Post
finish_at κs a x y u v p q = (agree p.0 q.0, agree p.1.0 q.1.0 ∥ agree p.1.1 q.1.1 ∥ refl)

pub queue_at : OneOutcome said.queue_at.ended fn.queue_at.Reads.Post
queue_at κs a x y u v p q = (agree p.0 q.0, agree p.1.0 q.1.0 ∥ agree p.1.1 q.1.1 ∥ refl)

pub up_at : OneOutcome said.up_at.ended fn.up_at.Reads.Post
up_at κs a x y u v p q = (agree p.0 q.0, agree p.1.0 q.1.0 ∥ refl ∥ agree p.1.1 q.1.1 ∥ refl)

pub down_at : OneOutcome said.down_at.ended fn.down_at.Reads.Post
down_at κs a x y u v p q = (agree p.0 q.0, agree p.1.0 q.1.0 ∥ refl ∥ agree p.1.1 q.1.1 ∥ refl)
