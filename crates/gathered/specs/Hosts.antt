-- A host in C that makes queues among its calls. It starts from an accepted `ngt_format` and hands image and volume, as the last call
-- left them, to the next one. Each statement is proved, under the same name in small letters, in proofs/Hosts.antt.
use Prim.{Unit}
use Rattle.std.specs.Prelude.{ℕ, ◌≡◌, List, [], ◌∷◌, ◌++◌, length}
use Rattle.words.specs.Le.{le}
use Rattle.drive.specs.declared.Drive.{Drive}
use Rattle.packed.specs.Image.{drive_in}
use Rattle.queues.specs.declared.Request.{Request}
use Rattle.queues.specs.Queue.{After, queue_after}
use Rattle.queues.specs.Images.{requests_in, images_after}
use Rattle.ngt.specs.Calls.{Tells, QueuedBy}
use Rattle.history.specs.World.{World, Call}
use Rattle.history.specs.History.{Start, begun, run, history}
use Rattle.chained.specs.Host.{Host, Got, Makes, Starts, TypedCall, host_of}
use Rattle.gathered.specs.Runs.{done_of}

pub data HostCall : Type 0 where
  call : Call → HostCall
  -- requests as bytes, and the buffer
  queue : List ℕ → List ℕ → HostCall

-- the calls that it stands for
abbrev pub calls_of : World → HostCall → List Call
calls_of w (call c) = c ∷ []
calls_of w (queue requests bytes) = done_of (images_after w.drive w.vol requests bytes) (requests_in requests) bytes

unfoldable pub all_calls : World → List HostCall → List Call
all_calls w [] = []
all_calls w (a ∷ asks) = calls_of w a ++ all_calls (run w (calls_of w a)) asks

-- what the C function promises, in its own `ensures`: from host h to host k. What a queue fills is how many were done.
abbrev pub Asks : World → Host → HostCall → Got → Host → Type 0
Asks w h (call c) g k = Makes w h c g k
Asks w h (queue requests bytes) g k =
    QueuedBy (drive_in h.image) h.vol requests bytes h.image g.number k.vol k.image g.filled g.answer

-- one after another, each on what the last one left
unfoldable pub AskChain : World → Host → List HostCall → Host → Type 0
AskChain w h [] k = k ≡ h
AskChain w h (a ∷ asks) k = (g : Got) × (m : Host) × Asks w h a g m × AskChain (run w (calls_of w a)) m asks k

-- a secret has 32 bytes, as the C types say
abbrev pub TypedAsk : HostCall → Type 0
TypedAsk (call c) = TypedCall c
TypedAsk (queue requests bytes) = Unit {0}

unfoldable pub TypedAsks : List HostCall → Type 0
TypedAsks [] = Unit {0}
TypedAsks (a ∷ asks) = TypedAsk a × TypedAsks asks

-- After any list of calls and queues the host carries exactly image and volume of the history of their calls.
abbrev pub HostQueues : Type 0
HostQueues =
    (start : Start) (asks : List HostCall) (first last : Host) → length start.secret ≡ 32 → TypedAsks asks → Starts start first
    → AskChain (begun start) first asks last
    → let w = history start (all_calls (begun start) asks) in
    (last ≡ host_of w) × (drive_in last.image ≡ w.drive)

-- And a further queue tells it how many writes were done there, and the refusal that stopped it.
abbrev pub QueueIsTold : Type 0
QueueIsTold =
    (start : Start) (asks : List HostCall) (first last next : Host) (got : Got) (requests bytes : List ℕ) → length start.secret ≡ 32 → TypedAsks asks
    → Starts start first → AskChain (begun start) first asks last
    → let w = history start (all_calls (begun start) asks) in
    let x = images_after w.drive w.vol requests bytes in
    Asks w last (queue requests bytes) got next → Tells x.answer got.number got.answer × (got.filled ≡ le 8 x.done)

-- "no byte of it if none of them changed the drive": a queue whose drive has the counter that it was given hands back the very drive.
abbrev pub CounterTells : Type 0
CounterTells = (d : Drive) (v : List ℕ) (qs : List Request) (bytes : List ℕ) → (queue_after d v qs bytes).drive.counter ≡ d.counter → (queue_after d v qs bytes).drive ≡ d
