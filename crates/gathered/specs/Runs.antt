-- "Demands 1 and 3 read a queue as its writes." Each statement is proved, under the same name in small letters, in proofs/Runs.antt.
use Prim.{Unit}
use Rattle.std.specs.Prelude.{ℕ, ◌≤◌, ◌≡◌, ◌⊎◌, List, [], ◌∷◌, ◌++◌, length, take, drop}
use Rattle.answers.specs.Answer as A
use Rattle.answers.specs.Numbers.{number_of}
use Rattle.queues.specs.declared.Request.{Request}
use Rattle.queues.specs.Queue.{After, queue_after}
use Rattle.history.specs.World.{World, Call, write}
use Rattle.history.specs.Step.{answer_to, step}
use Rattle.history.specs.History.{Start, run, history}

-- the single writes that a queue asks for
unfoldable pub writes_of : List Request → List ℕ → List Call
writes_of [] bytes = []
writes_of (q ∷ qs) bytes = write q.offset (take q.length bytes) ∷ writes_of qs (drop q.length bytes)

-- those that were done
abbrev pub done_of : After → List Request → List ℕ → List Call
done_of x qs bytes = take x.done (writes_of qs bytes)

-- each call is accepted, on what those before it left
unfoldable pub AllAccepted : World → List Call → Type 0
AllAccepted w [] = Unit {0}
AllAccepted w (c ∷ calls) = (answer_to w c ≡ A.Accepted) × AllAccepted (step w c) calls

-- u is what the user of w holds after a queue that left x
pub record UserHolds (w : World) (x : After) (u : World) : Type 0 where
  pub drive : u.drive ≡ x.drive
  pub vol : u.vol ≡ x.vol
  pub listing : u.listing ≡ w.listing ++ x.pads
  pub secret : u.secret ≡ w.secret
  pub old : u.old ≡ w.old

-- Whatever the user holds: the world after a queue is the world after the writes that were done, and each of them is accepted.
abbrev pub QueueRun : Type 0
QueueRun =
    (w : World) (qs : List Request) (bytes : List ℕ)
    → let x = queue_after w.drive w.vol qs bytes in
    let calls = done_of x qs bytes in
    UserHolds w x (run w calls) × AllAccepted w calls

-- So a history with a queue in it is a history of writes, and each demand speaks of it. The outside counter is the drive's.
abbrev pub QueueHistory : Type 0
QueueHistory =
    (start : Start) (calls : List Call) (qs : List Request) (bytes : List ℕ)
    → let w = history start calls in
    let x = queue_after w.drive w.vol qs bytes in
    let u = history start (calls ++ done_of x qs bytes) in
    UserHolds w x u × (u.outside ≡ x.drive.counter)

-- No false alarm: no queue is answered 1 to 7.
abbrev pub QueueNoFalseAlarm : Type 0
QueueNoFalseAlarm =
    (start : Start) (calls : List Call) (qs : List Request) (bytes : List ℕ)
    → let w = history start calls in
    let a = (queue_after w.drive w.vol qs bytes).answer in
    (a ≡ A.Accepted) ⊎ (8 ≤ number_of a)
