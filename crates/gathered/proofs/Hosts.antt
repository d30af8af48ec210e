-- A host that makes queues carries image and volume of the history of their writes.
use mathlib.Core.Path.{◌≡◌, refl, sym, ap, ◌∙◌}
use mathlib.Core.Bool.{Bool, true, false, not}
use mathlib.Core.List.{List, [], ◌∷◌}
use mathlib.Core.Logic.{◌⊎◌, inl, inr, ⊎_elim}
use Prim.Native.Nat.{ℕ, zero, suc, ◌%◌, ◌<◌}
use native.Mathlib.Omega.{arith}
use lib.Dec.{eqb}
use lib.ListN.{length, take, drop}
use borrow.Author.Tests.{ne_eqb}
use Rattle.base.specs.Pick.{pick}
use Rattle.base.proofs.PickLaws.{told}
use Rattle.answers.specs.Numbers.{accepts}
use Rattle.drive.specs.declared.Drive.{Drive}
use Rattle.packed.specs.Image.{drive_image, drive_in, DriveFits}
use Rattle.packed.proofs.ImageLaws.{drive-back}
use Rattle.changes.specs.Change.{advanced}
use Rattle.changes.specs.Write.{writes, written_drive, write_answer, write_done, write_volume}
use Rattle.queues.specs.declared.Request.{Request}
use Rattle.queues.specs.Queue.{After, writes_from, before_writes, queue_after}
use Rattle.queues.specs.Images.{requests_in, uneven_after, images_after}
use Rattle.queues.proofs.QueueLaws.{writes-on, writes_stop, queue-first, queue-goes-on}
use Rattle.answers.proofs.StageLaws.{accepted_is}
use Rattle.ngt.specs.Calls.{image_after, counter_rose, QueuedBy}
use Rattle.history.specs.World.{World, Call}
use Rattle.history.specs.History.{Start, begun, run, history}
use Rattle.history.proofs.Runs.{run-append}
use Rattle.history.proofs.Sound.{Sound}
use Rattle.history.proofs.Steps.{start_sound, step_sound, run_sound}
use Rattle.chained.specs.Host.{Host, Got, Typed, Starts, host_of}
use Rattle.chained.proofs.Host.{host_is, step_fits, made, started, begun-fits}
use Rattle.history.specs.Step.{step}
use Rattle.gathered.specs.Runs.{writes_of, done_of, UserHolds}
use Rattle.gathered.specs.Hosts.{HostCall, call, queue, calls_of, all_calls, Asks, AskChain, TypedAsk, TypedAsks, HostQueues, QueueIsTold, CounterTells}
use Rattle.gathered.proofs.Runs.{idle, queue-run}

-- a write hands back the very drive, or one with a higher counter
abbrev Rises : Drive → Drive → Type 0
Rises d e = (e ≡ d) ⊎ (d.counter < e.counter)

write-rises : (d : Drive) (v : List ℕ) (o : ℕ) (bytes : List ℕ) → Rises d (write_done d v o bytes).drive
unfolding write_done advanced
write-rises d v o bytes = go (writes (write_answer d v o (length bytes)) bytes) (written_drive d v o bytes) (omega arith)
  where
    go : (b : Bool) (new : Drive) → d.counter < new.counter → Rises d (pick b new d)
    go true new h = inr h
    go false new h = inl refl

rises-on : (d e f : Drive) → Rises d e → Rises e f → Rises d f
rises-on d e f (inl p) (inl q) = inl (q ∙ p)
rises-on d e f (inl p) (inr q) = inr (rw p at q)
rises-on d e f (inr p) (inl q) = inr (rw q p)
rises-on d e f (inr p) (inr q) = inr (omega (arith, p, q))

writes_rise : (qs : List Request) (d : Drive) (v bytes : List ℕ) → Rises d (writes_from d v qs bytes).drive
unfolding writes_from
writes_rise [] d v bytes = inl refl
writes_rise (q ∷ qs) d v bytes =
    let mine = take q.length bytes in
    let next = (write_done d v q.offset mine).drive in
    let w = write_volume d v q.offset mine in
    ⊎_elim
    (λ (a : accepts (write_done d v q.offset mine).answer ≡ true).
    rw (writes-on d v q qs bytes a) (rises-on d next _ (write-rises d v q.offset mine) (writes_rise qs next w (drop q.length bytes))))
    (λ (a : accepts (write_done d v q.offset mine).answer ≡ false). rw (writes_stop d v q qs bytes a) (inl refl))
    (told (accepts (write_done d v q.offset mine).answer))

queue-rises : (d : Drive) (v : List ℕ) (qs : List Request) (bytes : List ℕ) → Rises d (queue_after d v qs bytes).drive
queue-rises d v qs bytes =
    ⊎_elim
    (λ (a : accepts (before_writes d v qs bytes) ≡ true). rw (queue-goes-on d v qs bytes (accepted_is _ a)) (writes_rise qs d v bytes))
    (λ (a : accepts (before_writes d v qs bytes) ≡ false). rw (queue-first d v qs bytes _ refl a) (inl refl))
    (told (accepts (before_writes d v qs bytes)))

pub counter-tells : CounterTells
counter-tells d v qs bytes e = ⊎_elim (λ (p : (queue_after d v qs bytes).drive ≡ d). p) (λ (h : d.counter < (queue_after d v qs bytes).drive.counter). absurd (omega (arith, e, h))) (queue-rises d v qs bytes)

-- a list of requests as bytes is the queue of its requests, or nothing is done
module _ (w : World) (requests bytes : List ℕ) where
  abbrev x : After
  x = images_after w.drive w.vol requests bytes

  abbrev Runs : After → Type 0
  Runs y = UserHolds w y (run w (done_of y (requests_in requests) bytes)) × Rises w.drive y.drive

  images_run : Runs x
  unfolding images_after
  images_run = go (eqb (length requests % 16) 0)
    where
      go : (b : Bool) → Runs (pick b (queue_after w.drive w.vol (requests_in requests) bytes) (uneven_after w.drive w.vol))
      go true = ((queue-run w (requests_in requests) bytes).0, queue-rises w.drive w.vol (requests_in requests) bytes)
      go false = ((idle w (requests_in requests) bytes _).0, inl refl)

-- the image that is left is the drive's
image-left : (d e : Drive) → Rises d e → image_after (counter_rose d e) e (drive_image d) ≡ drive_image e
unfolding image_after
image-left d e (inl p) = go (eqb d.counter e.counter)
  where
    go : (b : Bool) → image_after (not b) e (drive_image d) ≡ drive_image e
    go true = ap drive_image (sym p)
    go false = refl
image-left d e (inr h) = rw (ne_eqb d.counter e.counter (λ q. omega (arith, q, h))) refl

-- the writes of a queue ask nothing of their types
typed_writes : (k : ℕ) (qs : List Request) (bytes : List ℕ) → Typed (take k (writes_of qs bytes))
unfolding Typed writes_of
typed_writes zero qs bytes = tt
typed_writes (suc k) [] bytes = tt
typed_writes (suc k) (q ∷ qs) bytes = (tt, typed_writes k qs (drop q.length bytes))

run_fits : (calls : List Call) (w : World) → Sound w → Typed calls → DriveFits w.drive → DriveFits (run w calls).drive
unfolding run Typed
run_fits [] w s t f = f
run_fits (c ∷ calls) w s t f = run_fits calls (step w c) (step_sound w c s) t.1 (step_fits w s c t.0 f)

module _ (w : World) (s : Sound w) (f : DriveFits w.drive) where
  ask_fits : (a : HostCall) → TypedAsk a → DriveFits (run w (calls_of w a)).drive
  unfolding Typed
  ask_fits (call c) t = run_fits (c ∷ []) w s (t, tt) f
  ask_fits (queue requests bytes) t = run_fits (calls_of w (queue requests bytes)) w s (typed_writes (x w requests bytes).done (requests_in requests) bytes) f

  ask_made : (a : HostCall) (g : Got) (k : Host) → Asks w (host_of w) a g k → k ≡ host_of (run w (calls_of w a))
  unfolding run
  ask_made (call c) g k p = made w s f c g k p
  ask_made (queue requests bytes) g k p =
      let h = images_run w requests bytes in
      let r : QueuedBy w.drive w.vol requests bytes (drive_image w.drive) g.number k.vol k.image g.filled g.answer = rw (drive-back w.drive f) at p in
      host_is (r.drive ∙ image-left w.drive (x w requests bytes).drive h.1 ∙ ap drive_image (sym h.0.drive)) (r.volume ∙ sym h.0.vol)

follows : (asks : List HostCall) (w : World) (h k : Host) → Sound w → DriveFits w.drive → TypedAsks asks → h ≡ host_of w → AskChain w h asks k
    → (k ≡ host_of (run w (all_calls w asks))) × DriveFits (run w (all_calls w asks)).drive
unfolding AskChain TypedAsks all_calls run
follows [] w h k s f t e p = (p ∙ e, f)
follows (a ∷ asks) w h k s f t e (g, m, p, rest) =
    rw (run-append w (calls_of w a) (all_calls (run w (calls_of w a)) asks))
    (follows asks (run w (calls_of w a)) m k (run_sound w (calls_of w a) s) (ask_fits w s f a t.0) t.1 (ask_made w s f a g m (rw e at p)) rest)

carries : (start : Start) (asks : List HostCall) (first last : Host) → length start.secret ≡ 32 → TypedAsks asks → Starts start first → AskChain (begun start) first asks last
    → (last ≡ host_of (history start (all_calls (begun start) asks))) × DriveFits (history start (all_calls (begun start) asks)).drive
carries start asks first last wide typed p chain =
    follows asks (begun start) first last (start_sound start) (begun-fits start wide) typed (started start first p) chain

pub host_queues : HostQueues
host_queues start asks first last wide typed p chain =
    let (e, f) = carries start asks first last wide typed p chain in
    (e, ap (λ (h : Host). drive_in h.image) e ∙ drive-back (history start (all_calls (begun start) asks)).drive f)

pub queue_is_told : QueueIsTold
queue_is_told start asks first last next got requests bytes wide typed p chain made-it =
    let w = history start (all_calls (begun start) asks) in
    let (e, f) = carries start asks first last wide typed p chain in
    let q : Asks w (host_of w) (queue requests bytes) got next = rw e at made-it in
    let r : QueuedBy w.drive w.vol requests bytes (drive_image w.drive) got.number next.vol next.image got.filled got.answer = rw (drive-back w.drive f) at q in
    (r.tells, r.counts)
