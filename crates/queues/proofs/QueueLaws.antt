-- What a queue is, by its first refusal and by its writes.
use mathlib.Core.Path.{◌≡◌, refl, ap, ◌∙◌}
use mathlib.Core.Bool.{true, false}
use mathlib.Core.List.{List, ◌∷◌}
use Prim.Native.Nat.{ℕ}
use lib.ListN.{length, take, drop}
use lib.Dec.{eqb}
use borrow.Author.Tests.{eq-eqb, ne_eqb, eqb-true}
use Rattle.base.proofs.PickLaws.{yes, no}
use Rattle.answers.specs.Answer.{Answer}
use Rattle.answers.specs.Answer as A
use Rattle.answers.specs.Numbers.{accepts}
use Rattle.answers.proofs.StageLaws.{goes_on, stops, both_stages, passed}
use Rattle.drive.specs.declared.Drive.{Drive}
use Rattle.drive.specs.Opening.{measure_of}
use Rattle.changes.specs.Write.{write_done, write_volume, write_pads}
use Rattle.queues.specs.declared.Request.{Request}
use Rattle.queues.specs.Queue.{measure_by, lengths_of, none_done, one_more, writes_from, before_writes, queue_after}

-- 1 and 2 as the drive tests them
pub measured : (d : Drive) (v : List ℕ) → measure_of d v ≡ measure_by d (length v)
unfolding measure_of measure_by
measured d v = refl

-- a write of the queue: accepted, or the one that stops it
module _ (d : Drive) (v : List ℕ) (q : Request) (qs : List Request) (bytes : List ℕ) where
  abbrev mine : List ℕ
  mine = take q.length bytes

  pub writes-on : accepts (write_done d v q.offset mine).answer ≡ true
      → writes_from d v (q ∷ qs) bytes
      ≡ one_more (write_pads d v q.offset mine) (writes_from (write_done d v q.offset mine).drive (write_volume d v q.offset mine) qs (drop q.length bytes))
  unfolding writes_from
  writes-on a = yes _ a refl

  pub writes_stop : accepts (write_done d v q.offset mine).answer ≡ false → writes_from d v (q ∷ qs) bytes ≡ none_done d v (write_done d v q.offset mine).answer
  unfolding writes_from
  writes_stop a = no _ a refl

-- 1, 2 and 8 before the first write, and else the writes
module _ (d : Drive) (v : List ℕ) (qs : List Request) (bytes : List ℕ) where
  pub before_lent : accepts (measure_by d (length v)) ≡ false → before_writes d v qs bytes ≡ measure_by d (length v)
  unfolding before_writes
  before_lent a = stops (measure_by d (length v)) _ a

  pub before_off : accepts (measure_by d (length v)) ≡ true → (lengths_of qs ≡ length bytes → ⊥) → before_writes d v qs bytes ≡ A.PastEnd
  unfolding before_writes
  before_off a h = goes_on (measure_by d (length v)) _ a ∙ no _ (ne_eqb (lengths_of qs) (length bytes) h) refl

  pub before_on : accepts (measure_by d (length v)) ≡ true → lengths_of qs ≡ length bytes → before_writes d v qs bytes ≡ A.Accepted
  unfolding before_writes
  before_on a h = goes_on (measure_by d (length v)) _ a ∙ yes _ (eq-eqb (lengths_of qs) (length bytes) h) refl

  pub before_told : accepts (before_writes d v qs bytes) ≡ true → lengths_of qs ≡ length bytes
  unfolding before_writes
  before_told a =
      eqb-true (lengths_of qs) (length bytes)
      (passed (eqb (lengths_of qs) (length bytes)) A.Accepted A.PastEnd refl (both_stages (measure_by d (length v)) _ a).1).0

  -- 1, 2 and 8 leave drive and volume as they came, list nothing, and none is done
  pub queue-first : (a : Answer) → before_writes d v qs bytes ≡ a → accepts a ≡ false → queue_after d v qs bytes ≡ none_done d v a
  unfolding queue_after
  queue-first a e h = no _ (ap accepts e ∙ h) (ap (λ (x : Answer). none_done d v x) e)

  pub queue-goes-on : before_writes d v qs bytes ≡ A.Accepted → queue_after d v qs bytes ≡ writes_from d v qs bytes
  unfolding queue_after
  queue-goes-on e = yes _ (ap accepts e) refl
