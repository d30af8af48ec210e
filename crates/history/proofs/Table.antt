-- Each call answers what the table says; and so none answers 1 to 7.
use mathlib.Core.Path.{◌≡◌, refl, ap}
use mathlib.Core.Bool.{Bool, true, false}
use mathlib.Core.Logic.{◌⊎◌, inl, inr}
use Prim.Native.Nat.{◌≤◌}
use native.Mathlib.Omega.{arith}
use lib.Dec.{eqb, ltb}
use lib.ListN.{length}
use Rattle.base.specs.Pick.{pick, both}
use Rattle.base.specs.Lists.{same}
use Rattle.answers.specs.Answer.{Answer}
use Rattle.answers.specs.Answer as A
use Rattle.answers.specs.Numbers.{number_of}
use Rattle.drive.specs.Drive.{shape_of}
use Rattle.drive.specs.declared.Done.{Done}
use Rattle.opening.specs.Mount.{mount_done}
use Rattle.reading.proofs.Exact.{read_exact}
use Rattle.reports.proofs.Exact.{stored_exact}
use Rattle.changes.proofs.Exact.{Clean, write_exact, begin_exact, sweep_exact, finish_exact, discard_exact}
use Rattle.records.specs.Record.{record_of}
use Rattle.history.specs.World.{World, Call, mount, write, begin, sweep, finish, discard, asks, read, report, stored}
use Rattle.history.specs.Step.{answer_to}
use Rattle.history.specs.History.{history}
use Rattle.history.specs.Demands.{NoFalseAlarm}
use Rattle.history.specs.Answers.{changing, has_moved, nuggets_left, counter_full, in_range, in_nugget, none_held, due, AnswersExactly}
use Rattle.history.proofs.Quiet.{path_quiet, whole_quiet, flakes_quiet, nugget_read_lem, report-accepts}
use Rattle.history.proofs.Sound.{Sound}
use Rattle.history.proofs.Steps.{sound, mount-back}

module _ (w : World) (x : Sound w) where
  clean : Clean w.drive w.vol
  clean =
      record {
        opens = x.untouched.opens;
        paths = path_quiet w.drive w.vol x.untouched;
        whole = whole_quiet w.drive w.vol x.untouched;
        flakes = λ n h. flakes_quiet w.drive w.vol x.untouched n (record_of (shape_of w.drive) w.vol n).held h (λ f e. e);
      }

  pub exactly : (c : Call) → answer_to w c ≡ due w c
  unfolding mount_done
  exactly (mount any) = ap (λ (done : Done). done.answer) (mount-back w x any)
  exactly (write o bytes) = write_exact w.drive w.vol clean o (length bytes)
  exactly (begin secret) = rw (← x.present) (begin_exact w.drive w.vol clean secret)
  exactly (sweep n) = sweep_exact w.drive w.vol clean n
  exactly finish = finish_exact w.drive w.vol clean
  exactly (discard n first count) = discard_exact w.drive w.vol clean n first count
  exactly (asks (read o buffer)) = read_exact w.drive w.vol x.untouched.opens (nugget_read_lem w.drive w.vol x.untouched) o (length buffer)
  exactly (asks report) = report-accepts w.drive w.vol x.untouched
  exactly (asks (stored n f)) = stored_exact w.drive w.vol x.untouched.opens n f

pub answers_exactly : AnswersExactly
answers_exactly start calls c = exactly (history start calls) (sound start calls) c

-- the answer is none of 1 to 7
abbrev Quiet : Answer → Type 0
Quiet a = (a ≡ A.Accepted) ⊎ (8 ≤ number_of a)

-- so is each of the table
quiet_pick : (b : Bool) {x y : Answer} → Quiet x → Quiet y → Quiet (pick b x y)
quiet_pick true p q = p
quiet_pick false p q = q

due_quiet : (w : World) (c : Call) → Quiet (due w c)
due_quiet w (mount any) = inl refl
due_quiet w (write o bytes) =
    quiet_pick (in_range w o (length bytes))
    (quiet_pick (eqb (length bytes) 0) (inl refl) (quiet_pick (counter_full w) (inr (omega arith)) (inl refl)))
    (inr (omega arith))
due_quiet w (begin secret) =
    quiet_pick (changing w) (inr (omega arith))
    (quiet_pick (same secret w.secret) (inr (omega arith))
    (quiet_pick (eqb w.drive.epoch 65535) (inr (omega arith)) (quiet_pick (counter_full w) (inr (omega arith)) (inl refl))))
due_quiet w (sweep n) =
    quiet_pick (changing w)
    (quiet_pick (ltb n w.drive.n)
    (quiet_pick (has_moved w n) (inr (omega arith)) (quiet_pick (counter_full w) (inr (omega arith)) (inl refl)))
    (inr (omega arith)))
    (inr (omega arith))
due_quiet w finish =
    quiet_pick (changing w)
    (quiet_pick (ltb 0 (nuggets_left w)) (inr (omega arith)) (quiet_pick (counter_full w) (inr (omega arith)) (inl refl)))
    (inr (omega arith))
due_quiet w (discard n first count) =
    quiet_pick (eqb w.drive.version 1) (inr (omega arith))
    (quiet_pick (in_nugget w n first count)
    (quiet_pick (none_held w n first count) (inl refl) (quiet_pick (counter_full w) (inr (omega arith)) (inl refl)))
    (inr (omega arith)))
due_quiet w (asks (read o buffer)) = quiet_pick (in_range w o (length buffer)) (inl refl) (inr (omega arith))
due_quiet w (asks report) = inl refl
due_quiet w (asks (stored n f)) = quiet_pick (both (ltb n w.drive.n) (ltb f w.drive.p)) (inl refl) (inr (omega arith))

pub no_false_alarm : NoFalseAlarm
no_false_alarm start calls c = rw (answers_exactly start calls c) (due_quiet (history start calls) c)
