-- Document 02, Item 2: "The call does as the writes one after another, stopping at the first refusal, and answers how many were done
-- and that refusal." For every drive, volume, list and buffer. Each statement is proved, under the same name in small letters, in
-- proofs/Writes.antt.
use Rattle.std.specs.Prelude.{ℕ, zero, suc, ◌<◌, ◌≤◌, ◌≡◌, false, List, [], ◌++◌, length, get_or, take}
use Rattle.base.specs.Lists.{part}
use Rattle.answers.specs.Answer.{Answer}
use Rattle.answers.specs.Answer as A
use Rattle.answers.specs.Numbers.{accepts}
use Rattle.records.specs.Listing.{Entry}
use Rattle.drive.specs.declared.Drive.{Drive}
use Rattle.changes.specs.Write.{write_answer, write_done, write_volume, write_pads}
use Rattle.queues.specs.declared.Request.{Request}
use Rattle.queues.specs.Queue.{lengths_of, After, none_done, before_writes, queue_after}

-- request k, and its bytes: those of the buffer behind the bytes of the requests before it
abbrev pub request_of : List Request → ℕ → Request
request_of qs k = get_or qs k (record { offset = 0; length = 0 })

abbrev pub bytes_for : List Request → List ℕ → ℕ → List ℕ
bytes_for qs bytes k = part (lengths_of (take k qs)) (request_of qs k).length bytes

-- what the single writes of the first k requests leave, each made on what the one before it left
pub record QueueStanding : Type 0 where
  pub drive : Drive
  pub vol : List ℕ
  pub pads : List Entry

unfoldable pub standing_by : Drive → List ℕ → List Request → List ℕ → ℕ → QueueStanding
standing_by d v qs bytes zero = record { drive = d; vol = v; pads = [] }
standing_by d v qs bytes (suc k) =
    let w = standing_by d v qs bytes k in
    let o = (request_of qs k).offset in
    let mine = bytes_for qs bytes k in
    record {
      drive = (write_done w.drive w.vol o mine).drive;
      vol = write_volume w.drive w.vol o mine;
      pads = w.pads ++ write_pads w.drive w.vol o mine;
    }

-- what the single write of request k answers there
abbrev pub answer_at : Drive → List ℕ → List Request → List ℕ → ℕ → Answer
answer_at d v qs bytes k =
    let w = standing_by d v qs bytes k in
    write_answer w.drive w.vol (request_of qs k).offset (length (bytes_for qs bytes k))

abbrev pub queue_standing : After → QueueStanding
queue_standing x = record { drive = x.drive; vol = x.vol; pads = x.pads }

-- Drive, volume and pads of a queue are those of as many single writes as it says were done: "a refusal leaves drive and volume
-- as the writes before it left them".
abbrev pub QueueWrites : Type 0
QueueWrites =
    (d : Drive) (v : List ℕ) (qs : List Request) (bytes : List ℕ) → before_writes d v qs bytes ≡ A.Accepted
    → let x = queue_after d v qs bytes in
    queue_standing x ≡ standing_by d v qs bytes x.done

-- It does those that are accepted, up to the first that isn't, and answers that one's refusal.
pub record Stops (d : Drive) (v : List ℕ) (qs : List Request) (bytes : List ℕ) (x : After) : Type 0 where
  pub few : x.done ≤ length qs
  pub accepted : (k : ℕ) → k < x.done → answer_at d v qs bytes k ≡ A.Accepted
  pub refused : x.done < length qs → (x.answer ≡ answer_at d v qs bytes x.done) × (accepts x.answer ≡ false)
  pub all : x.done ≡ length qs → x.answer ≡ A.Accepted

abbrev pub QueueStops : Type 0
QueueStops =
    (d : Drive) (v : List ℕ) (qs : List Request) (bytes : List ℕ) → before_writes d v qs bytes ≡ A.Accepted → Stops d v qs bytes (queue_after d v qs bytes)

-- 1, 2 and 8 before the first write leave all as it came, and none is done.
abbrev pub QueueRefusedFirst : Type 0
QueueRefusedFirst =
    (d : Drive) (v : List ℕ) (qs : List Request) (bytes : List ℕ) → accepts (before_writes d v qs bytes) ≡ false
    → queue_after d v qs bytes ≡ none_done d v (before_writes d v qs bytes)
