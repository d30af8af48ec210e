-- A host carries image and volume of the history's world from call to call.
use mathlib.Core.Path.{◌≡◌, refl, sym, ap, ◌∙◌}
use mathlib.Core.Bool.{Bool, true, false, not}
use mathlib.Core.List.{List, [], ◌∷◌}
use Prim.Native.Nat.{ℕ, ◌+◌}
use native.Mathlib.Omega.{arith}
use borrow.Author.Tests.{eq-eqb, ne_eqb}
use lib.ListN.{length}
use Rattle.base.specs.Pick.{pick}
use Rattle.answers.specs.Numbers.{accepts}
use Rattle.drive.specs.declared.Drive.{Drive}
use Rattle.drive.specs.declared.Done.{Done}
use Rattle.packed.specs.Image.{drive_image, drive_in, DriveFits}
use Rattle.packed.proofs.ImageLaws.{drive-back}
use Rattle.opening.specs.Mount.{mount_done}
use Rattle.reports.specs.declared.told.Report.{Report}
use Rattle.reports.specs.Report.{report_answer, refused, report_of}
use Rattle.changes.specs.Write.{written_drive, write_done}
use Rattle.changes.specs.Rekey.{begun_drive, begin_done, swept_drive, sweep_done, finished_drive, finish_done}
use Rattle.changes.specs.Change.{advanced}
use Rattle.changes.specs.Discard.{clears, discarded_drive, discard_done}
use Rattle.ngt.specs.Calls.{Tells, image_after, Changed, counter_rose}
use Rattle.history.specs.World.{World, Call, mount, write, begin, sweep, finish, discard, asks, read, report, stored}
use Rattle.history.specs.Step.{answer_to, world_after, step}
use Rattle.history.specs.History.{Start, begun, run, history}
use Rattle.history.proofs.Sound.{Sound}
use Rattle.history.proofs.Steps.{start_sound, step_sound, run_sound, mount-back, mount-same}
use Rattle.chained.specs.Host.{Host, Got, Makes, Starts, Chain, TypedCall, Typed, host_of, HostFollows, HostIsTold}
use Rattle.chained.proofs.Back.{format-fits, write-fits, begin-fits, sweep-fits, finish-fits, discard-fits}

pub host_is : {h : Host} {i v : List ℕ} → h.image ≡ i → h.vol ≡ v → h ≡ record { image = i; vol = v }
host_is p q = λ i. record { image = p i; vol = q i }

report_picked : (b : Bool) (r s : Report) → r.answer ≡ s.answer → (pick b r s).answer ≡ s.answer
report_picked true r s e = e
report_picked false r s e = refl

report_answer_lem : (d : Drive) (v : List ℕ) → (report_of d v).answer ≡ report_answer d v
unfolding report_of
report_answer_lem d v = report_picked (accepts (report_answer d v)) _ (refused (report_answer d v)) refl

-- a call that changes nothing stores nothing, and the image is that of the drive all the same
after-image : (b : Bool) (new d : Drive) → image_after b (pick b new d) (drive_image d) ≡ drive_image (pick b new d)
unfolding image_after
after-image true new d = refl
after-image false new d = refl

-- a drive that changed has another counter, and one that came back as given has its own
rose_told : (b : Bool) (new d : Drive) → new.counter ≡ d.counter + 1 → pick b new d ≡ pick (counter_rose d (pick b new d)) new d
rose_told true new d e = rw (ne_eqb d.counter new.counter (λ q. omega (arith, e, q))) refl
rose_told false new d e = rw (eq-eqb d.counter d.counter refl) refl

module _ (w : World) (x : Sound w) where
  pub step_fits : (c : Call) → TypedCall c → DriveFits w.drive → DriveFits (step w c).drive
  unfolding step world_after
  step_fits (mount any) t f = rw (mount-same w x any) f
  step_fits (write o bytes) t f = write-fits w.drive w.vol o bytes f
  step_fits (begin secret) t f = begin-fits w.drive w.vol secret t f
  step_fits (sweep n) t f = sweep-fits w.drive w.vol n f
  step_fits finish t f = finish-fits w.drive w.vol f
  step_fits (discard n first count) t f = discard-fits w.drive w.vol n first count f
  step_fits (asks q) t f = f

  module _ (f : DriveFits w.drive) where
    pub back : drive_in (drive_image w.drive) ≡ w.drive
    back = drive-back w.drive f

    changed : {changes : Bool} {done : Done} {after : List ℕ} {number : ℕ} {answer : List ℕ} {k : Host} (new : Drive) → done.drive ≡ pick changes new w.drive
        → Changed done changes after (drive_image w.drive) number k.vol k.image answer → k ≡ record { image = drive_image done.drive; vol = after }
    changed {changes} {done} new e p =
        host_is (p.drive ∙ ap (λ (z : Drive). image_after changes z (drive_image w.drive)) e ∙ after-image changes new w.drive ∙ ap drive_image (sym e)) p.volume

    -- what a function promises on what the host carries for a world is what it carries for the next one
    pub made : (c : Call) (g : Got) (k : Host) → Makes w (host_of w) c g k → k ≡ host_of (step w c)
    unfolding step world_after write_done begin_done sweep_done finish_done discard_done advanced
    made (mount any) g k p =
        rw (mount-same w x any) (host_is (p.0.drive ∙ ap (λ (z : Done). drive_image z.drive) (mount-back w x any)) p.1)
    made (write o bytes) g k p = changed (written_drive w.drive w.vol o bytes) refl (rw back at p)
    made (begin secret) g k p = changed (begun_drive w.drive secret) refl (rw back at p)
    made (sweep n) g k p = changed (swept_drive w.drive w.vol n) refl (rw back at p)
    made finish g k p = changed (finished_drive w.drive) refl (rw back at p)
    made (discard n first count) g k p =
        let new = discarded_drive w.drive w.vol n first count in
        changed new (rose_told (clears w.drive w.vol n first count) new w.drive refl) (rw back at p)
    made (asks (read o buffer)) g k p = p.1
    made (asks report) g k p = p.1
    made (asks (stored n m)) g k p = p.1

    -- and what it tells is the history's answer
    tells : (c : Call) (g : Got) (k : Host) → Makes w (host_of w) c g k → Tells (answer_to w c) g.number g.answer
    unfolding mount_done write_done begin_done sweep_done finish_done discard_done
    tells (mount any) g k p = p.0.tells
    tells (write o bytes) g k p = rw back at p.tells
    tells (begin secret) g k p = rw back at p.tells
    tells (sweep n) g k p = rw back at p.tells
    tells finish g k p = rw back at p.tells
    tells (discard n first count) g k p = rw back at p.tells
    tells (asks (read o buffer)) g k p = rw back at p.0.tells
    tells (asks report) g k p = rw (← report_answer_lem w.drive w.vol) (rw back at p.0.tells)
    tells (asks (stored n m)) g k p = rw back at p.0.tells

follows : (w : World) (calls : List Call) (h k : Host) → Sound w → DriveFits w.drive → Typed calls → h ≡ host_of w → Chain w h calls k
    → (k ≡ host_of (run w calls)) × DriveFits (run w calls).drive
unfolding Chain Typed run
follows w [] h k x f t e p = (p ∙ e, f)
follows w (c ∷ calls) h k x f t e (g, m, p, rest) =
    follows (step w c) calls m k (step_sound w c x) (step_fits w x c t.0 f) t.1 (made w x f c g m (rw e at p)) rest

pub started : (start : Start) (h : Host) → Starts start h → h ≡ host_of (begun start)
unfolding begun
started start h p = host_is p.1.drive p.1.volume

pub begun-fits : (start : Start) → length start.secret ≡ 32 → DriveFits (begun start).drive
unfolding begun
begun-fits start wide = format-fits start.shape start.salt start.secret start.given start.outside start.salted wide start.low

carries : (start : Start) (calls : List Call) (first last : Host) → length start.secret ≡ 32 → Typed calls → Starts start first
    → Chain (begun start) first calls last → (last ≡ host_of (history start calls)) × DriveFits (history start calls).drive
carries start calls first last wide typed p chain =
    follows (begun start) calls first last (start_sound start) (begun-fits start wide) typed (started start first p) chain

pub host_follows : HostFollows
host_follows start calls first last wide typed p chain =
    let (e, f) = carries start calls first last wide typed p chain in
    (e, ap (λ (h : Host). drive_in h.image) e ∙ drive-back (history start calls).drive f)

pub host_is_told : HostIsTold
host_is_told start calls c first last next got wide typed p chain made-it =
    let w = history start calls in
    let (e, f) = carries start calls first last wide typed p chain in
    tells w (run_sound (begun start) calls (start_sound start)) f c got next (rw e at made-it)
