-- No second outcome meets the words of a public function: each theorem is over its own `ensures`.
use mathlib.Core.Path.{refl}
use mathlib.Core.List.{List}
use Prim.Native.Nat.{ℕ}
use Rattle.base.specs.Outcome.{OneOutcome, OneSeen}
use Rattle.base.proofs.OutcomeLaws.{agree, ◌∥◌}
use Rattle.reports.proofs as fn
use Rattle.reports.specs.contracts as said

pub moved_in : OneOutcome said.moved_in.ended fn.moved_in.Reads.Post
moved_in κs a x y u v p q = (agree p q, refl)

pub counting_count_of : OneOutcome said.counting.count_of.ended fn.counting.count_of.Reads.Post
counting_count_of κs a x y u v p q = (agree p q, refl)

pub counting_counts_in : OneOutcome said.counting.counts_in.ended fn.counting.counts_in.Reads.Post
counting_counts_in κs a x y u v p q = (agree p q, refl)

pub counting_share_of : OneOutcome said.counting.share_of.ended fn.counting.share_of.Reads.Post
counting_share_of κs a x y u v p q = (agree p q, refl)

pub counted : OneOutcome said.counted.ended fn.counted.Reads.Post
counted κs a x y u v p q = (agree p q, refl)

pub refused : OneOutcome said.refused.ended fn.refused.Reads.Post
refused κs a x y u v p q = (agree p q, refl)

pub report : OneOutcome said.report.ended fn.report.Reads.Post
report κs a x y u v p q = (agree p q, refl)

pub stored_flake_answer : OneOutcome said.stored_flake_answer.ended fn.stored_flake_answer.Reads.Post
stored_flake_answer κs a x y u v p q = (agree p q, refl)

pub stored_flake : OneSeen said.stored_flake.ended (λ κs. (ℕ × ℕ) × List ℕ) (λ κs r. (r.ref_ptr, r.now)) fn.stored_flake.Reads.Post
stored_flake κs a x y u v p q = (agree p.1 q.1 ∥ agree p.0 q.0, refl)
