-- A queue over a history is the history with its writes.
use mathlib.Core.Path.{◌≡◌, refl, sym, ap, ◌∙◌}
use mathlib.Core.Bool.{Bool, true, false}
use mathlib.Core.List.{List, [], ◌∷◌, ◌++◌, append-nil, append_assoc}
use mathlib.Core.Logic.{◌⊎◌, inl, inr, ⊎_elim}
use Prim.Native.Nat.{ℕ, ◌≤◌}
use native.Mathlib.Omega.{arith}
use lib.Dec.{eqb}
use lib.ListN.{length, take, drop}
use borrow.Author.Tests.{eqb-true, eqb-false}
use Rattle.base.specs.Pick.{pick}
use Rattle.base.proofs.PickLaws.{told, clash}
use Rattle.answers.specs.Answer.{Answer}
use Rattle.answers.specs.Answer as A
use Rattle.answers.specs.Numbers.{number_of, accepts}
use Rattle.answers.proofs.StageLaws.{accepted_is, stops}
use Rattle.layout.specs.Parts.{length_of}
use Rattle.drive.specs.declared.Drive.{Drive}
use Rattle.drive.specs.Drive.{shape_of}
use Rattle.drive.specs.Opening.{in_form, measure_of}
use Rattle.changes.specs.Write.{write_done, write_volume, write_pads}
use Rattle.reports.specs.Stored.{stored_answer}
use Rattle.queues.specs.declared.Request.{Request}
use Rattle.queues.specs.Queue.{measure_by, lengths_of, After, none_done, one_more, writes_from, before_writes, queue_after}
use Rattle.queues.proofs.QueueLaws.{writes-on, writes_stop, before_off, before_on, queue-first, queue-goes-on}
use Rattle.history.specs.World.{World, Call, asks, write, stored}
use Rattle.history.specs.Step.{answer_to, world_after, step}
use Rattle.history.specs.History.{Start, begun, run, history}
use Rattle.history.proofs.Runs.{run-append}
use Rattle.history.proofs.Steps.{start_sound, run_sound}
use Rattle.history.proofs.Table.{no_false_alarm}
use Rattle.gathered.specs.Runs.{writes_of, done_of, AllAccepted, UserHolds, QueueRun, QueueHistory, QueueNoFalseAlarm}

abbrev Is : World → List Request → List ℕ → After → Type 0
Is w qs bytes x = UserHolds w x (run w (done_of x qs bytes)) × AllAccepted w (done_of x qs bytes)

-- nothing was done
pub idle : (w : World) (qs : List Request) (bytes : List ℕ) (a : Answer) → Is w qs bytes (none_done w.drive w.vol a)
unfolding run AllAccepted
idle w qs bytes a = (record { drive = refl; vol = refl; listing = sym (append-nil w.listing); secret = refl; old = refl }, tt)

module _ (w : World) (q : Request) (qs : List Request) (bytes : List ℕ) where
  abbrev mine : List ℕ
  mine = take q.length bytes

  abbrev made : World
  made = step w (write q.offset mine)

  -- one write, and the queue of the others
  onward : (y : After) → answer_to w (write q.offset mine) ≡ A.Accepted → Is made qs (drop q.length bytes) y → Is w (q ∷ qs) bytes (one_more (write_pads w.drive w.vol q.offset mine) y)
  unfolding run AllAccepted writes_of step world_after
  onward y a ih = (
    record {
      drive = ih.0.drive;
      vol = ih.0.vol;
      listing = ih.0.listing ∙ append_assoc w.listing (write_pads w.drive w.vol q.offset mine) y.pads;
      secret = ih.0.secret;
      old = ih.0.old;
    },
    (a, ih.1),
  )

  made-drive : made.drive ≡ (write_done w.drive w.vol q.offset mine).drive
  unfolding step world_after
  made-drive = refl

  made-vol : made.vol ≡ write_volume w.drive w.vol q.offset mine
  unfolding step world_after
  made-vol = refl

writes-run : (qs : List Request) (w : World) (bytes : List ℕ) → Is w qs bytes (writes_from w.drive w.vol qs bytes)
unfolding writes_from step world_after write_done
writes-run [] w bytes = idle w [] bytes A.Accepted
writes-run (q ∷ qs) w bytes =
    ⊎_elim
    (λ (a : accepts (write_done w.drive w.vol q.offset (take q.length bytes)).answer ≡ true).
    rw (writes-on w.drive w.vol q qs bytes a)
    (onward w q qs bytes (writes_from (made w q qs bytes).drive (made w q qs bytes).vol qs (drop q.length bytes)) (accepted_is _ a) (writes-run qs (made w q qs bytes) (drop q.length bytes))))
    (λ (a : accepts (write_done w.drive w.vol q.offset (take q.length bytes)).answer ≡ false).
    rw (writes_stop w.drive w.vol q qs bytes a) (idle w (q ∷ qs) bytes _))
    (told (accepts (write_done w.drive w.vol q.offset (take q.length bytes)).answer))

pub queue-run : QueueRun
queue-run w qs bytes =
    ⊎_elim
    (λ (a : accepts (before_writes w.drive w.vol qs bytes) ≡ true). rw (queue-goes-on w.drive w.vol qs bytes (accepted_is _ a)) (writes-run qs w bytes))
    (λ (a : accepts (before_writes w.drive w.vol qs bytes) ≡ false). rw (queue-first w.drive w.vol qs bytes _ refl a) (idle w qs bytes _))
    (told (accepts (before_writes w.drive w.vol qs bytes)))

pub queue-history : QueueHistory
queue-history start calls qs bytes =
    let w = history start calls in
    let x = queue_after w.drive w.vol qs bytes in
    let h = (queue-run w qs bytes).0 in
    rw (run-append (begun start) calls (done_of x qs bytes)) (h, sym (run_sound w (done_of x qs bytes) (run_sound (begun start) calls (start_sound start))).counter ∙ ap (λ (d : Drive). d.counter) h.drive)

-- the answer is acceptance, or that of a single write made on what was left
abbrev Ends : World → List Request → List ℕ → After → Type 0
Ends w qs bytes x = (x.answer ≡ A.Accepted) ⊎ ((o : ℕ) × (l : List ℕ) × (x.answer ≡ answer_to (run w (done_of x qs bytes)) (write o l)))

writes_end : (qs : List Request) (w : World) (bytes : List ℕ) → Ends w qs bytes (writes_from w.drive w.vol qs bytes)
unfolding writes_from step world_after write_done run writes_of
writes_end [] w bytes = inl refl
writes_end (q ∷ qs) w bytes =
    ⊎_elim
    (λ (a : accepts (write_done w.drive w.vol q.offset (take q.length bytes)).answer ≡ true).
    rw (writes-on w.drive w.vol q qs bytes a) (writes_end qs (made w q qs bytes) (drop q.length bytes)))
    (λ (a : accepts (write_done w.drive w.vol q.offset (take q.length bytes)).answer ≡ false).
    rw (writes_stop w.drive w.vol q qs bytes a) (inr (q.offset, take q.length bytes, refl)))
    (told (accepts (write_done w.drive w.vol q.offset (take q.length bytes)).answer))

-- tests 1 and 2 alone refuse with 1 or 2
first_two : (a b : Bool) → accepts (pick a (pick b A.Accepted A.Length) A.Limits) ≡ false → number_of (pick a (pick b A.Accepted A.Length) A.Limits) ≤ 2
first_two true true h = absurd (clash refl h)
first_two true false h = omega arith
first_two false b h = omega arith

module _ (start : Start) (calls : List Call) where
  abbrev w : World
  w = history start calls

  lent : accepts (measure_by w.drive (length w.vol)) ≡ true
  unfolding measure_by measure_of stored_answer
  lent = go (told (accepts (measure_by w.drive (length w.vol)))) (no_false_alarm start calls (asks (stored 0 0)))
    where
      go : (accepts (measure_by w.drive (length w.vol)) ≡ true) ⊎ (accepts (measure_by w.drive (length w.vol)) ≡ false)
          → (stored_answer w.drive w.vol 0 0 ≡ A.Accepted) ⊎ (8 ≤ number_of (stored_answer w.drive w.vol 0 0)) → accepts (measure_by w.drive (length w.vol)) ≡ true
      go (inl a) n = a
      go (inr a) n =
          let is : stored_answer w.drive w.vol 0 0 ≡ measure_of w.drive w.vol = stops (measure_of w.drive w.vol) _ a in
          absurd (⊎_elim (λ (e : stored_answer w.drive w.vol 0 0 ≡ A.Accepted). clash (ap accepts (sym is ∙ e)) a) (λ (k : 8 ≤ number_of (stored_answer w.drive w.vol 0 0)). omega (arith, k, ap number_of is, first_two (in_form w.drive) (eqb (length w.vol) (length_of (shape_of w.drive))) a)) n)

  quiet : (x : After) (qs : List Request) (bytes : List ℕ) → Ends w qs bytes x → (x.answer ≡ A.Accepted) ⊎ (8 ≤ number_of x.answer)
  quiet x qs bytes (inl e) = inl e
  quiet x qs bytes (inr (o, l, e)) =
      ⊎_elim (λ (a : answer_to (history start (calls ++ done_of x qs bytes)) (write o l) ≡ A.Accepted). inl (e ∙ sym same ∙ a))
      (λ (k : 8 ≤ number_of (answer_to (history start (calls ++ done_of x qs bytes)) (write o l))). inr (rw (e ∙ sym same) k))
      (no_false_alarm start (calls ++ done_of x qs bytes) (write o l))
    where
      same : answer_to (history start (calls ++ done_of x qs bytes)) (write o l) ≡ answer_to (run w (done_of x qs bytes)) (write o l)
      same = ap (λ (u : World). answer_to u (write o l)) (run-append (begun start) calls (done_of x qs bytes))

  alarm : (qs : List Request) (bytes : List ℕ) → (eqb (lengths_of qs) (length bytes) ≡ true) ⊎ (eqb (lengths_of qs) (length bytes) ≡ false)
      → let a = (queue_after w.drive w.vol qs bytes).answer in
      (a ≡ A.Accepted) ⊎ (8 ≤ number_of a)
  alarm qs bytes (inl e) =
      rw (queue-goes-on w.drive w.vol qs bytes (before_on w.drive w.vol qs bytes lent (eqb-true (lengths_of qs) (length bytes) e)))
      (quiet (writes_from w.drive w.vol qs bytes) qs bytes (writes_end qs w bytes))
  alarm qs bytes (inr e) =
      rw (queue-first w.drive w.vol qs bytes A.PastEnd (before_off w.drive w.vol qs bytes lent (eqb-false (lengths_of qs) (length bytes) e)) refl) (inr (omega arith))

pub queue_no_false_alarm : QueueNoFalseAlarm
queue_no_false_alarm start calls qs bytes = alarm start calls qs bytes (told (eqb (lengths_of qs) (length bytes)))
