-- A queue is its single writes, by induction on its requests: the first write, and the queue of the others on what it left.
use mathlib.Core.Path.{◌≡◌, refl, sym, ap, ◌∙◌}
use mathlib.Core.Bool.{true, false}
use mathlib.Core.List.{List, [], ◌∷◌, ◌++◌, append-nil, append_assoc}
use mathlib.Core.Logic.{⊎_elim}
use Prim.Native.Nat.{ℕ, zero, suc, ◌<◌}
use native.Mathlib.Omega.{arith}
use lib.ListN.{length, take, drop}
use lib.Seq.{drop-drop}
use Rattle.base.proofs.PickLaws.{told}
use Rattle.answers.specs.Answer as A
use Rattle.answers.specs.Numbers.{accepts}
use Rattle.answers.proofs.StageLaws.{accepted_is}
use Rattle.records.specs.Listing.{Entry}
use Rattle.drive.specs.declared.Drive.{Drive}
use Rattle.changes.specs.Write.{write_answer, write_done, write_volume, write_pads}
use Rattle.queues.specs.declared.Request.{Request}
use Rattle.queues.specs.Queue.{lengths_of, After, none_done, one_more, writes_from, before_writes, queue_after}
use Rattle.queues.proofs.QueueLaws.{writes-on, writes_stop, queue-first, queue-goes-on}
use Rattle.gathered.specs.Writes.{request_of, bytes_for, QueueStanding, standing_by, answer_at, queue_standing, QueueWrites, Stops, QueueStops, QueueRefusedFirst}

-- with these pads before its own
abbrev behind : List Entry → QueueStanding → QueueStanding
behind pads w = record { drive = w.drive; vol = w.vol; pads = pads ++ w.pads }

module _ (d : Drive) (v : List ℕ) (q : Request) (qs : List Request) (bytes : List ℕ) where
  abbrev mine : List ℕ
  mine = take q.length bytes

  abbrev next : Drive
  next = (write_done d v q.offset mine).drive

  abbrev after : List ℕ
  after = write_volume d v q.offset mine

  abbrev pads : List Entry
  pads = write_pads d v q.offset mine

  abbrev rest : List ℕ
  rest = drop q.length bytes

  -- the bytes of a later request, in the buffer and in what the first one leaves of it
  bytes_shift : (k : ℕ) → bytes_for (q ∷ qs) bytes (suc k) ≡ bytes_for qs rest k
  unfolding lengths_of
  bytes_shift k = ap (λ (l : List ℕ). take (request_of qs k).length l) (sym (drop-drop (lengths_of (take k qs)) q.length bytes))

  -- and so the writes of the first k + 1 are the first, then those of the others
  left_shift : (k : ℕ) → standing_by d v (q ∷ qs) bytes (suc k) ≡ behind pads (standing_by next after qs rest k)
  unfolding standing_by lengths_of
  left_shift zero = ap (λ (p : List Entry). record { drive = next; vol = after; pads = p }) (sym (append-nil pads))
  left_shift (suc k) =
      let w = standing_by next after qs rest k in
      let o = (request_of qs k).offset in
      let made : QueueStanding → List ℕ → QueueStanding = λ x l. record { drive = (write_done x.drive x.vol o l).drive; vol = write_volume x.drive x.vol o l; pads = x.pads ++ write_pads x.drive x.vol o l } in
      (λ i. made (left_shift k i) (bytes_shift k i))
      ∙ ap (λ (p : List Entry). record { drive = (write_done w.drive w.vol o (bytes_for qs rest k)).drive; vol = write_volume w.drive w.vol o (bytes_for qs rest k); pads = p })
      (append_assoc pads w.pads (write_pads w.drive w.vol o (bytes_for qs rest k)))

  answer_shift : (k : ℕ) → answer_at d v (q ∷ qs) bytes (suc k) ≡ answer_at next after qs rest k
  answer_shift k = λ i. write_answer (left_shift k i).drive (left_shift k i).vol (request_of qs k).offset (length (bytes_shift k i))

-- what both statements say of the writes
abbrev Is : Drive → List ℕ → List Request → List ℕ → After → Type 0
Is d v qs bytes x = (queue_standing x ≡ standing_by d v qs bytes x.done) × Stops d v qs bytes x

none : (d : Drive) (v bytes : List ℕ) → Is d v [] bytes (none_done d v A.Accepted)
unfolding standing_by
none d v bytes = (refl, record { few = omega arith; accepted = λ k h. absurd (omega (arith, h)); refused = λ h. absurd (omega (arith, h)); all = λ h. refl })

module _ (d : Drive) (v : List ℕ) (q : Request) (qs : List Request) (bytes : List ℕ) where
  stopped : accepts (write_done d v q.offset (take q.length bytes)).answer ≡ false → Is d v (q ∷ qs) bytes (none_done d v (write_done d v q.offset (take q.length bytes)).answer)
  unfolding standing_by write_done lengths_of
  stopped a = (refl, record { few = omega arith; accepted = λ k h. absurd (omega (arith, h)); refused = λ h. (refl, a); all = λ h. absurd (omega (arith, h)) })

  module _ (a : accepts (write_done d v q.offset (take q.length bytes)).answer ≡ true) (y : After) (ih : Is (next d v q qs bytes) (after d v q qs bytes) qs (rest d v q qs bytes) y) where
    each : (k : ℕ) → k < suc y.done → answer_at d v (q ∷ qs) bytes k ≡ A.Accepted
    unfolding standing_by write_done lengths_of
    each zero h = accepted_is _ a
    each (suc k) h = answer_shift d v q qs bytes k ∙ ih.1.accepted k (omega (arith, h))

    onward : Is d v (q ∷ qs) bytes (one_more (pads d v q qs bytes) y)
    onward = (
      ap (λ (w : QueueStanding). behind (pads d v q qs bytes) w) ih.0 ∙ sym (left_shift d v q qs bytes y.done),
      record {
        few = omega (arith, ih.1.few);
        accepted = each;
        refused = λ h. let r = ih.1.refused (omega (arith, h)) in (r.0 ∙ sym (answer_shift d v q qs bytes y.done), r.1);
        all = λ h. ih.1.all (omega (arith, h));
      },
    )

writes_are : (qs : List Request) (d : Drive) (v bytes : List ℕ) → Is d v qs bytes (writes_from d v qs bytes)
unfolding writes_from
writes_are [] d v bytes = none d v bytes
writes_are (q ∷ qs) d v bytes =
    ⊎_elim
    (λ (a : accepts (write_done d v q.offset (take q.length bytes)).answer ≡ true).
    rw (writes-on d v q qs bytes a) (onward d v q qs bytes a (writes_from (next d v q qs bytes) (after d v q qs bytes) qs (rest d v q qs bytes)) (writes_are qs (next d v q qs bytes) (after d v q qs bytes) (rest d v q qs bytes))))
    (λ (a : accepts (write_done d v q.offset (take q.length bytes)).answer ≡ false). rw (writes_stop d v q qs bytes a) (stopped d v q qs bytes a))
    (told (accepts (write_done d v q.offset (take q.length bytes)).answer))

queue_is : (d : Drive) (v : List ℕ) (qs : List Request) (bytes : List ℕ) → before_writes d v qs bytes ≡ A.Accepted → Is d v qs bytes (queue_after d v qs bytes)
queue_is d v qs bytes e = rw (queue-goes-on d v qs bytes e) (writes_are qs d v bytes)

pub queue-writes : QueueWrites
queue-writes d v qs bytes e = (queue_is d v qs bytes e).0

pub queue_stops : QueueStops
queue_stops d v qs bytes e = (queue_is d v qs bytes e).1

pub queue-refused-first : QueueRefusedFirst
queue-refused-first d v qs bytes h = queue-first d v qs bytes (before_writes d v qs bytes) refl h
