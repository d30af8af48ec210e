-- Document 02, Item 2: "The recorder gathers small writes and hands over a list of requests, each an offset and a length, with the
-- bytes joined in one buffer."
use Rattle.std.specs.Prelude.{ℕ, suc, ◌+◌, List, [], ◌∷◌, ◌++◌, eqb, length, take, drop}
use Rattle.base.specs.Pick.{pick}
use Rattle.layout.specs.Parts.{length_of}
use Rattle.answers.specs.Answer.{Answer}
use Rattle.answers.specs.Answer as A
use Rattle.answers.specs.Numbers.{accepts}
use Rattle.answers.specs.Stages.{and_then}
use Rattle.records.specs.Listing.{Entry}
use Rattle.drive.specs.declared.Drive.{Drive}
use Rattle.drive.specs.Drive.{shape_of}
use Rattle.drive.specs.Opening.{in_form}
use Rattle.changes.specs.Write.{write_done, write_volume, write_pads}
use Rattle.queues.specs.declared.Request.{Request}
use Rattle.queues.specs.declared.Queued.{Queued}

-- what stands past the end of a list of requests
abbrev pub no_request : Request
no_request = record { offset = 0; length = 0 }

-- tests 1 and 2, of a volume of so many bytes
unfoldable pub measure_by : Drive → ℕ → Answer
measure_by d held = pick (in_form d) (pick (eqb held (length_of (shape_of d))) A.Accepted A.Length) A.Limits

-- the lengths, added as plain integers
unfoldable pub lengths_of : List Request → ℕ
lengths_of [] = 0
lengths_of (q ∷ qs) = q.length + lengths_of qs

-- what some writes leave: drive, volume, what they listed, how many were done, and the answer
pub record After : Type 0 where
  pub drive : Drive
  pub vol : List ℕ
  pub pads : List Entry
  pub done : ℕ
  pub answer : Answer

-- no write is done
abbrev pub none_done : Drive → List ℕ → Answer → After
none_done d v a = record { drive = d; vol = v; pads = []; done = 0; answer = a }

-- one more is done, before the others
abbrev pub one_more : List Entry → After → After
one_more pads x = record { drive = x.drive; vol = x.vol; pads = pads ++ x.pads; done = suc x.done; answer = x.answer }

-- "The call does as the writes one after another, stopping at the first refusal": each takes its bytes from the buffer's front
unfoldable pub writes_from : Drive → List ℕ → List Request → List ℕ → After
writes_from d v [] bytes = none_done d v A.Accepted
writes_from d v (q ∷ qs) bytes =
    let mine = take q.length bytes in
    let one = write_done d v q.offset mine in
    pick (accepts one.answer)
    (one_more (write_pads d v q.offset mine) (writes_from one.drive (write_volume d v q.offset mine) qs (drop q.length bytes)))
    (none_done d v one.answer)

-- "8 comes after 1 and 2, before the first write, if the lengths don't add up to the buffer"
unfoldable pub before_writes : Drive → List ℕ → List Request → List ℕ → Answer
before_writes d v qs bytes = and_then (measure_by d (length v)) (pick (eqb (lengths_of qs) (length bytes)) A.Accepted A.PastEnd)

unfoldable pub queue_after : Drive → List ℕ → List Request → List ℕ → After
queue_after d v qs bytes =
    let a = before_writes d v qs bytes in
    pick (accepts a) (writes_from d v qs bytes) (none_done d v a)

abbrev pub queued_at : Answer → ℕ → Drive → Queued
queued_at a done d = record { outcome = record { answer = a; done = done }; drive = d }

-- "answers how many were done and that refusal": what is handed back, what the volume holds, and what is listed
abbrev pub queued_by : After → Queued
queued_by x = queued_at x.answer x.done x.drive

abbrev pub queue_done : Drive → List ℕ → List Request → List ℕ → Queued
queue_done d v qs bytes = queued_by (queue_after d v qs bytes)

abbrev pub queue_volume : Drive → List ℕ → List Request → List ℕ → List ℕ
queue_volume d v qs bytes = (queue_after d v qs bytes).vol

abbrev pub queue_pads : Drive → List ℕ → List Request → List ℕ → List Entry
queue_pads d v qs bytes = (queue_after d v qs bytes).pads
