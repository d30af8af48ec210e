-- What a begin, a sweep and a finish need to be accepted, and what they leave.
use mathlib.Core.Path.{◌≡◌, refl, ap, ◌∙◌}
use mathlib.Core.Bool.{true, false}
use mathlib.Core.Logic.{◌⊎◌, inl, inr}
use mathlib.Core.List.{List}
use Prim.Native.Nat.{ℕ, ◌+◌, ◌<◌}
use native.Mathlib.Omega.{arith}
use borrow.Author.Tests.{ne_eqb, lt-ltb, le-ltb}
use Rattle.base.specs.Lists.{same}
use Rattle.base.proofs.PickLaws.{yes, no, clash}
use Rattle.answers.specs.Answer as A
use Rattle.answers.specs.Numbers.{accepts}
use Rattle.records.specs.declared.Record.{Record}
use Rattle.records.specs.Rule.{sweep_way, turned, epoch_after}
use Rattle.records.proofs.RuleLaws.{formed-epoch}
use Rattle.records.specs.Record.{record_of}
use Rattle.drive.specs.Drive.{shape_of, gauge_of, counter_top}
use Rattle.opening.proofs.Reopens.{length-head}
use Rattle.changes.specs.Change.{advanced}
use Rattle.changes.specs.Rekey.{epoch_top, begin_answer, begun_drive, begin_done, begin_volume, sweep_answer, sweep_ways, swept_drive, sweep_done, sweep_volume, finished_drive, finish_done}
use Rattle.changes.proofs.AnswerLaws.{Moves, begin-told, sweep-told}
use Rattle.changes.proofs.SettleLaws.{settled_record}
use Rattle.changes.proofs.SweepLaws.{way_own, way_other}
use Rattle.history.specs.World.{World, begin, sweep, finish}
use Rattle.history.specs.Step.{answer_to, world_after, step}
use Rattle.history.specs.Answers.{changing, has_moved, nuggets_left}
use Rattle.history.proofs.Sound.{Sound}
use Rattle.history.proofs.Ways.{swept_turns}
use Rattle.history.proofs.Table.{exactly}

module _ (w : World) (x : Sound w) where
  module _ (low : w.drive.counter < counter_top) where
    pub begin-accepted : (secret : List ℕ) → changing w ≡ false → same secret w.secret ≡ false → w.drive.epoch < epoch_top → answer_to w (begin secret) ≡ A.Accepted
    begin-accepted secret steady new early =
        exactly w x (begin secret)
        ∙ no _ steady
        (no _ new (no _ (ne_eqb w.drive.epoch epoch_top (λ e. omega (arith, e, early))) (no _ (ne_eqb w.drive.counter counter_top (λ e. omega (arith, e, low))) refl)))

    pub sweep-accepted : (n : ℕ) → changing w ≡ true → n < w.drive.n → has_moved w n ≡ false → answer_to w (sweep n) ≡ A.Accepted
    sweep-accepted n begun inside still =
        exactly w x (sweep n)
        ∙ yes _ begun (yes _ (lt-ltb n w.drive.n inside) (no _ still (no _ (ne_eqb w.drive.counter counter_top (λ e. omega (arith, e, low))) refl)))

    pub finish-accepted : changing w ≡ true → nuggets_left w ≡ 0 → answer_to w finish ≡ A.Accepted
    finish-accepted begun none =
        exactly w x finish
        ∙ yes _ begun
        (no _ (le-ltb 0 (nuggets_left w) (omega (arith, none))) (no _ (ne_eqb w.drive.counter counter_top (λ e. omega (arith, e, low))) refl))

  pub begin-leaves : (secret : List ℕ) → answer_to w (begin secret) ≡ A.Accepted → (step w (begin secret)).drive ≡ begun_drive w.drive secret
  unfolding step world_after begin_done
  begin-leaves secret e = yes _ (ap accepts e) refl

  -- in a steady drive each record's epoch is the head's
  pub steady-epoch : changing w ≡ false → (n : ℕ) → n < w.drive.n → (record_of (shape_of w.drive) w.vol n).epoch ≡ w.drive.epoch
  steady-epoch steady n h = go (formed-epoch w.drive.p (gauge_of w.drive) (record_of (shape_of w.drive) w.vol n) (x.inv.formed n h))
    where
      go : ((record_of (shape_of w.drive) w.vol n).epoch ≡ w.drive.epoch) ⊎ ((changing w ≡ true) × ((record_of (shape_of w.drive) w.vol n).epoch + 1 ≡ w.drive.epoch))
          → (record_of (shape_of w.drive) w.vol n).epoch ≡ w.drive.epoch
      go (inl e) = e
      go (inr e) = absurd (clash e.0 steady)

  -- so after a begin none has moved
  pub begin_moves_none : (secret : List ℕ) → answer_to w (begin secret) ≡ A.Accepted → (n : ℕ) → n < w.drive.n → has_moved (step w (begin secret)) n ≡ false
  unfolding step world_after begin_volume begin_done begun_drive
  begin_moves_none secret e n h =
      let taken : accepts (begin_answer w.drive w.vol secret) ≡ true = ap accepts e in
      let was = steady-epoch (begin-told w.drive w.vol secret taken).steady n h in
      let kept = settled_record (shape_of w.drive) (begun_drive w.drive secret) w.vol (length-head (begun_drive w.drive secret) x.handed.salt_long_lem) n in
      rw (taken, kept) (ne_eqb (record_of (shape_of w.drive) w.vol n).epoch (w.drive.epoch + 1) (λ z. omega (arith, z, was)))

  pub finish-leaves : answer_to w finish ≡ A.Accepted → (step w finish).drive ≡ finished_drive w.drive
  unfolding step world_after finish_done
  finish-leaves e = yes _ (ap accepts e) refl

  module _ (n : ℕ) (e : answer_to w (sweep n) ≡ A.Accepted) where
    pub sweep-leaves : (step w (sweep n)).drive ≡ swept_drive w.drive w.vol n
    unfolding step world_after sweep_done
    sweep-leaves = yes _ (ap accepts e) refl

    taken : accepts (sweep_answer w.drive w.vol n) ≡ true
    taken = ap accepts e

    pub sweep-tells : Moves w.drive w.vol n
    sweep-tells = sweep-told w.drive w.vol n taken

    -- each record is the one turned in its nugget's way
    pub swept_record : (m : ℕ) → m < w.drive.n → record_of (shape_of (step w (sweep n)).drive) (step w (sweep n)).vol m ≡ turned (sweep_ways n m) w.drive.epoch (record_of (shape_of w.drive) w.vol m)
    unfolding step world_after sweep_volume sweep_done advanced
    swept_record m h = rw taken (swept_turns w x n sweep-tells m h)

    pub swept_own : (record_of (shape_of (step w (sweep n)).drive) (step w (sweep n)).vol n).epoch ≡ w.drive.epoch
    unfolding epoch_after
    swept_own = ap (λ (r : Record). r.epoch) (swept_record n sweep-tells.inside) ∙ rw (way_own n sweep_way) refl

    pub swept_other : (m : ℕ) → m < w.drive.n → (m ≡ n → ⊥) → (record_of (shape_of (step w (sweep n)).drive) (step w (sweep n)).vol m).epoch ≡ (record_of (shape_of w.drive) w.vol m).epoch
    unfolding epoch_after
    swept_other m h far = ap (λ (r : Record). r.epoch) (swept_record m h) ∙ rw (way_other n sweep_way m far) refl
