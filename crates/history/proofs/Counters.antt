-- The shape and the salt stay, and the outside counter, which is the head's, rises with each accepted change.
use mathlib.Core.Path.{◌≡◌, refl, sym, ap, ◌∙◌}
use mathlib.Core.Bool.{Bool, true, false}
use mathlib.Core.Logic.{◌⊎◌, inl, inr}
use mathlib.Core.List.{List, [], ◌∷◌}
use Prim.Native.Nat.{ℕ, ◌+◌, ◌<◌, ◌≤◌}
use native.Mathlib.Omega.{arith}
use Rattle.base.specs.Pick.{pick}
use Rattle.base.proofs.PickLaws.{clash, either-told}
use Rattle.answers.specs.Answer as A
use Rattle.layout.specs.declared.Shape.{Shape}
use Rattle.drive.specs.declared.Drive.{Drive}
use Rattle.drive.specs.Drive.{shape_of}
use Rattle.opening.specs.Mount.{opened_drive, mount_answer}
use Rattle.opening.proofs.HeadBack.{opened}
use Rattle.opening.proofs.Reopens.{drive-back}
use Rattle.changes.specs.Change.{advanced}
use Rattle.changes.specs.Write.{write_done}
use Rattle.changes.specs.Discard.{discard_done}
use Rattle.changes.specs.Rekey.{begun_drive, begin_done, sweep_done, finished_drive, finish_done}
use Rattle.history.specs.World.{World, Call, mount, write, begin, sweep, finish, discard, asks}
use Rattle.history.specs.Step.{world_after, mounted, step, changes_by}
use Rattle.history.specs.History.{run, among}
use Rattle.history.proofs.Sound.{Sound}
use Rattle.history.proofs.Steps.{step_sound, mount-same}

-- what a drive keeps
abbrev pub base_of : Drive → Shape × List ℕ
base_of d = (shape_of d, d.salt)

either_base : (b : Bool) (new old : Drive) → base_of new ≡ base_of old → base_of (pick b new old) ≡ base_of old
either_base true new old e = e
either_base false new old e = refl

pub step_base : (w : World) (c : Call) → Sound w → base_of (step w c).drive ≡ base_of w.drive
unfolding step world_after write_done begin_done sweep_done finish_done discard_done advanced begun_drive finished_drive
step_base w (mount any) x = ap (λ (u : World). base_of u.drive) (mount-same w x any)
step_base w (write o bytes) x = either_base (changes_by w (write o bytes)) _ w.drive refl
step_base w (begin secret) x = either_base (changes_by w (begin secret)) _ w.drive refl
step_base w (sweep n) x = either_base (changes_by w (sweep n)) _ w.drive refl
step_base w finish x = either_base (changes_by w finish) _ w.drive refl
step_base w (discard n first count) x = either_base (changes_by w (discard n first count)) _ w.drive refl
step_base w (asks q) x = refl

pub run_base : (w : World) (calls : List Call) → Sound w → base_of (run w calls).drive ≡ base_of w.drive
unfolding run
run_base w [] x = refl
run_base w (c ∷ calls) x = run_base (step w c) calls (step_sound w c x) ∙ step_base w c x

-- one more if the test holds
raised : (b : Bool) (new old : Drive) → new.counter ≡ old.counter + 1 → (pick b new old).counter ≡ old.counter + pick b 1 0
raised true new old e = e
raised false new old e = omega arith

-- "Each accepted format, nonempty write, begin, sweep and finish adds 1 to the counter"; "Reads, reports, mounts and empty writes add nothing."
step-counter : (w : World) (c : Call) → w.drive.counter ≡ w.outside → (step w c).outside ≡ w.outside + pick (changes_by w c) 1 0
unfolding step world_after mounted write_done begin_done sweep_done finish_done discard_done advanced begun_drive finished_drive
step-counter w (mount any) e = omega arith
step-counter w (write o bytes) e = rw (← e) (raised (changes_by w (write o bytes)) _ w.drive refl)
step-counter w (begin secret) e = rw (← e) (raised (changes_by w (begin secret)) _ w.drive refl)
step-counter w (sweep n) e = rw (← e) (raised (changes_by w (sweep n)) _ w.drive refl)
step-counter w finish e = rw (← e) (raised (changes_by w finish) _ w.drive refl)
step-counter w (discard n first count) e = rw (← e) (raised (changes_by w (discard n first count)) _ w.drive refl)
step-counter w (asks q) e = omega arith

run-counter : (w : World) (calls : List Call) → Sound w → w.outside ≤ (run w calls).outside
unfolding run
run-counter w [] x = omega arith
run-counter w (c ∷ calls) x = omega (arith, step-counter w c x.counter, run-counter (step w c) calls (step_sound w c x))

pub run_raised : (w : World) (calls : List Call) → Sound w → among changes_by w calls ≡ true → w.outside < (run w calls).outside
unfolding run among
run_raised w [] x e = absurd (clash e refl)
run_raised w (c ∷ calls) x e = go (either-told (changes_by w c) (among changes_by (step w c) calls) e) (λ q. run_raised (step w c) calls (step_sound w c x) q)
  where
    go : (changes_by w c ≡ true) ⊎ (among changes_by (step w c) calls ≡ true)
        → (among changes_by (step w c) calls ≡ true → (step w c).outside < (run (step w c) calls).outside) → w.outside < (run (step w c) calls).outside
    go (inl q) again =
        let one : (step w c).outside ≡ w.outside + 1 = step-counter w c x.counter ∙ ap (λ (b : Bool). w.outside + pick b 1 0) q in
        omega (arith, one, run-counter (step w c) calls (step_sound w c x))
    go (inr q) again = omega (arith, step-counter w c x.counter, again q)

-- a mount that is accepted was brought the head's counter
pub head-counter : (w : World) → Sound w → (present old : List ℕ) (outside : ℕ) → mount_answer w.vol present old outside ≡ A.Accepted → outside ≡ w.outside
unfolding opened_drive
head-counter w x present old outside e =
    sym (opened w.vol present old outside e).counter
    ∙ ap (λ (d : Drive). d.counter) (drive-back w.drive w.vol w.old x.handed x.untouched.opens)
    ∙ x.counter
