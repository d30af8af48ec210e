-- What a call leaves alone: shape, epoch but for an accepted begin, and the record of each nugget that it doesn't change.
use mathlib.Core.Path.{◌≡◌, refl, sym, ap, ap₂, ◌∙◌}
use mathlib.Core.Bool.{Bool, true, false, not}
use mathlib.Core.Logic.{◌⊎◌, inl, inr}
use mathlib.Core.List.{List, [], ◌∷◌}
use Prim.Native.Nat.{ℕ, ◌<◌}
use lib.ListN.{length}
use borrow.Author.Tests.{eqb-true, eqb-false, ltb-true}
use Rattle.base.specs.Pick.{pick, both}
use Rattle.base.proofs.PickLaws.{yes, no, told, clash, both_left, both_right, either_off}
use Rattle.answers.specs.Numbers.{accepts}
use Rattle.layout.specs.declared.Shape.{Shape}
use Rattle.records.specs.declared.Way.TheVariants.{Clear}
use Rattle.records.specs.Journal.{flake_range}
use Rattle.records.specs.Record.{record_of}
use Rattle.records.specs.Rule.{sweep_way}
use Rattle.records.proofs.RuleLaws.{way_idle, turned-idle}
use Rattle.drive.specs.declared.Drive.{Drive}
use Rattle.drive.specs.Drive.{shape_of}
use Rattle.nuggets.specs.Touched.{touched_of}
use Rattle.opening.proofs.Reopens.{length-head}
use Rattle.changes.specs.Change.{advanced, settled}
use Rattle.changes.specs.Write.{writes, write_answer, write_way, write_work, written_drive, write_done, write_volume}
use Rattle.changes.specs.Rekey.{begin_done, begin_volume, sweep_answer, sweep_ways, sweep_work, swept_drive, sweep_done, sweep_volume, finish_answer, finished_drive, finish_done, finish_volume}
use Rattle.changes.specs.Discard.{clears, discard_ways, discard_work, discarded_drive, discard_done, discard_volume}
use Rattle.changes.proofs.AnswerLaws.{sweep-told, write-told}
use Rattle.changes.proofs.SettleLaws.{settled_record}
use Rattle.changes.proofs.SweepLaws.{way_other}
use Rattle.history.specs.World.{World, Call, mount, write, begin, sweep, finish, discard, asks}
use Rattle.history.specs.Step.{contents_after, world_after, step, changes_by}
use Rattle.history.specs.History.{run, among}
use Rattle.history.proofs.Sound.{Sound}
use Rattle.history.proofs.Ways.{written-turns, swept_turns}
use Rattle.history.proofs.Freed.{cleared_turns}
use Rattle.history.proofs.Steps.{mount-same, step_sound}
use Rattle.renewals.specs.Renewals.{names, begins, changed_by, begun_by}

-- u is w but for the records of some nuggets, as far as a summary looks at them
pub record Stays (w u : World) (changed : ℕ → Bool) : Type 0 where
  pub same_shape : shape_of u.drive ≡ shape_of w.drive
  pub same_epoch : u.drive.epoch ≡ w.drive.epoch
  pub same_record : (n : ℕ) → n < w.drive.n → changed n ≡ false → record_of (shape_of u.drive) u.vol n ≡ record_of (shape_of w.drive) w.vol n

-- a world with this drive and this volume
stays_by : (w u : World) (changed : ℕ → Bool) (e : Drive) (z : List ℕ) → u.drive ≡ e → u.vol ≡ z → shape_of e ≡ shape_of w.drive → e.epoch ≡ w.drive.epoch
    → ((n : ℕ) → n < w.drive.n → changed n ≡ false → record_of (shape_of w.drive) z n ≡ record_of (shape_of w.drive) w.vol n) → Stays w u changed
stays_by w u changed e z drive vol shape epoch records =
    record {
      same_shape = ap shape_of drive ∙ shape;
      same_epoch = ap (λ (d : Drive). d.epoch) drive ∙ epoch;
      same_record = λ n h off. ap₂ (λ (s : Shape) (v : List ℕ). record_of s v n) (ap shape_of drive ∙ shape) vol ∙ records n h off;
    }

-- the same drive and volume
stays_same : (w u : World) (changed : ℕ → Bool) → u.drive ≡ w.drive → u.vol ≡ w.vol → Stays w u changed
stays_same w u changed drive vol = stays_by w u changed w.drive w.vol drive vol refl refl (λ n h off. refl)

-- of an accepted change nothing is named
unnamed : (a b : Bool) → a ≡ true → both a (not b) ≡ false → b ≡ true
unnamed a true e off = refl
unnamed a false e off = absurd (clash (rw e refl) off)

unmet : (a b : Bool) → a ≡ true → both a b ≡ false → b ≡ false
unmet a b e off = rw e at off

module _ (w : World) (x : Sound w) where
  write-stays : (o : ℕ) (bytes : List ℕ) → Stays w (step w (write o bytes)) (λ n. both (changes_by w (write o bytes)) (names w (write o bytes) n))
  unfolding step world_after write_done write_volume advanced
  write-stays o bytes = go (told (writes (write_answer w.drive w.vol o (length bytes)) bytes))
    where
      by-drive : (step w (write o bytes)).drive ≡ pick (writes (write_answer w.drive w.vol o (length bytes)) bytes) (written_drive w.drive w.vol o bytes) w.drive
      by-drive = refl

      by-vol : (step w (write o bytes)).vol
          ≡ pick (writes (write_answer w.drive w.vol o (length bytes)) bytes) (settled (written_drive w.drive w.vol o bytes) (write_work w.drive w.vol o bytes)) w.vol
      by-vol = refl

      shape : shape_of (written_drive w.drive w.vol o bytes) ≡ shape_of w.drive
      shape = refl

      epoch : (written_drive w.drive w.vol o bytes).epoch ≡ w.drive.epoch
      epoch = refl

      go : (writes (write_answer w.drive w.vol o (length bytes)) bytes ≡ true) ⊎ (writes (write_answer w.drive w.vol o (length bytes)) bytes ≡ false)
          → Stays w (step w (write o bytes)) (λ n. both (changes_by w (write o bytes)) (names w (write o bytes) n))
      go (inl e) =
          let accepted = both_left (accepts (write_answer w.drive w.vol o (length bytes))) _ e in
          let some : 0 < length bytes = ltb-true 0 (length bytes) (both_right (accepts (write_answer w.drive w.vol o (length bytes))) _ e) in
          let granted = write-told w.drive w.vol o (length bytes) some accepted in
          stays_by w (step w (write o bytes)) _ (written_drive w.drive w.vol o bytes) (settled (written_drive w.drive w.vol o bytes) (write_work w.drive w.vol o bytes))
          (by-drive ∙ yes _ e refl) (by-vol ∙ yes _ e refl) shape epoch
          (λ n h off.
          let none : touched_of (shape_of w.drive) o (length bytes) n ≡ 0 = eqb-true _ _ (unnamed _ _ e off) in
          written-turns w x o bytes granted (contents_after w o bytes) (λ a. yes _ accepted refl) n h
          ∙ sym (turned-idle (write_way w.drive w.vol o (length bytes) n) w.drive.epoch (record_of (shape_of w.drive) w.vol n) (way_idle (record_of (shape_of w.drive) w.vol n) (touched_of (shape_of w.drive) o (length bytes) n) w.drive.epoch none)))
      go (inr e) = stays_same w (step w (write o bytes)) _ (by-drive ∙ no _ e refl) (by-vol ∙ no _ e refl)

  begin-stays : (secret : List ℕ) → begins w (begin secret) ≡ false → Stays w (step w (begin secret)) (λ n. both (changes_by w (begin secret)) (names w (begin secret) n))
  unfolding step world_after begin_done begin_volume
  begin-stays secret e = stays_same w (step w (begin secret)) _ drive vol
    where
      drive : (step w (begin secret)).drive ≡ w.drive
      drive = no _ e refl

      vol : (step w (begin secret)).vol ≡ w.vol
      vol = no _ e refl

  sweep-stays : (m : ℕ) → Stays w (step w (sweep m)) (λ n. both (changes_by w (sweep m)) (names w (sweep m) n))
  unfolding step world_after sweep_done sweep_volume advanced
  sweep-stays m = go (told (accepts (sweep_answer w.drive w.vol m)))
    where
      by-drive : (step w (sweep m)).drive ≡ pick (accepts (sweep_answer w.drive w.vol m)) (swept_drive w.drive w.vol m) w.drive
      by-drive = refl

      by-vol : (step w (sweep m)).vol ≡ pick (accepts (sweep_answer w.drive w.vol m)) (settled (swept_drive w.drive w.vol m) (sweep_work w.drive w.vol m)) w.vol
      by-vol = refl

      shape : shape_of (swept_drive w.drive w.vol m) ≡ shape_of w.drive
      shape = refl

      epoch : (swept_drive w.drive w.vol m).epoch ≡ w.drive.epoch
      epoch = refl

      go : (accepts (sweep_answer w.drive w.vol m) ≡ true) ⊎ (accepts (sweep_answer w.drive w.vol m) ≡ false)
          → Stays w (step w (sweep m)) (λ n. both (changes_by w (sweep m)) (names w (sweep m) n))
      go (inl e) =
          stays_by w (step w (sweep m)) _ (swept_drive w.drive w.vol m) (settled (swept_drive w.drive w.vol m) (sweep_work w.drive w.vol m))
          (by-drive ∙ yes _ e refl) (by-vol ∙ yes _ e refl) shape epoch
          (λ n h off.
          swept_turns w x m (sweep-told w.drive w.vol m e) n h
          ∙ sym (turned-idle (sweep_ways m n) w.drive.epoch (record_of (shape_of w.drive) w.vol n) (way_other m sweep_way n (eqb-false n m (unmet _ _ e off)))))
      go (inr e) = stays_same w (step w (sweep m)) _ (by-drive ∙ no _ e refl) (by-vol ∙ no _ e refl)

  discard-stays : (m first count : ℕ) → Stays w (step w (discard m first count)) (λ n. both (changes_by w (discard m first count)) (names w (discard m first count) n))
  unfolding step world_after discard_done discard_volume advanced
  discard-stays m first count = go (told (clears w.drive w.vol m first count))
    where
      new : Drive
      new = discarded_drive w.drive w.vol m first count

      by-drive : (step w (discard m first count)).drive ≡ pick (clears w.drive w.vol m first count) new w.drive
      by-drive = refl

      by-vol : (step w (discard m first count)).vol ≡ pick (clears w.drive w.vol m first count) (settled new (discard_work w.drive w.vol m first count)) w.vol
      by-vol = refl

      shape : shape_of new ≡ shape_of w.drive
      shape = refl

      epoch : new.epoch ≡ w.drive.epoch
      epoch = refl

      go : (clears w.drive w.vol m first count ≡ true) ⊎ (clears w.drive w.vol m first count ≡ false)
          → Stays w (step w (discard m first count)) (λ n. both (changes_by w (discard m first count)) (names w (discard m first count) n))
      go (inl e) =
          stays_by w (step w (discard m first count)) _ new (settled new (discard_work w.drive w.vol m first count)) (by-drive ∙ yes _ e refl) (by-vol ∙ yes _ e refl) shape epoch
          (λ n h off.
          cleared_turns w x m first count e n h
          ∙ sym (turned-idle (discard_ways m first count n) w.drive.epoch (record_of (shape_of w.drive) w.vol n) (way_other m (Clear (flake_range first count)) n (eqb-false n m (unmet _ _ e off)))))
      go (inr e) = stays_same w (step w (discard m first count)) _ (by-drive ∙ no _ e refl) (by-vol ∙ no _ e refl)

  finish-stays : Stays w (step w finish) (λ n. both (changes_by w finish) (names w finish n))
  unfolding step world_after finish_done finish_volume finished_drive
  finish-stays = go (told (accepts (finish_answer w.drive w.vol)))
    where
      by-drive : (step w finish).drive ≡ pick (accepts (finish_answer w.drive w.vol)) (finished_drive w.drive) w.drive
      by-drive = refl

      by-vol : (step w finish).vol ≡ pick (accepts (finish_answer w.drive w.vol)) (settled (finished_drive w.drive) w.vol) w.vol
      by-vol = refl

      shape : shape_of (finished_drive w.drive) ≡ shape_of w.drive
      shape = refl

      epoch : (finished_drive w.drive).epoch ≡ w.drive.epoch
      epoch = refl

      record_same : (n : ℕ) → record_of (shape_of w.drive) (settled (finished_drive w.drive) w.vol) n ≡ record_of (shape_of w.drive) w.vol n
      record_same n = settled_record (shape_of w.drive) (finished_drive w.drive) w.vol (length-head (finished_drive w.drive) x.handed.salt_long_lem) n

      go : (accepts (finish_answer w.drive w.vol) ≡ true) ⊎ (accepts (finish_answer w.drive w.vol) ≡ false)
          → Stays w (step w finish) (λ n. both (changes_by w finish) (names w finish n))
      go (inl e) =
          stays_by w (step w finish) _ (finished_drive w.drive) (settled (finished_drive w.drive) w.vol) (by-drive ∙ yes _ e refl) (by-vol ∙ yes _ e refl) shape epoch
          (λ n h off. record_same n)
      go (inr e) = stays_same w (step w finish) _ (by-drive ∙ no _ e refl) (by-vol ∙ no _ e refl)

pub step_stays : (w : World) (x : Sound w) (c : Call) → begins w c ≡ false → Stays w (step w c) (λ n. both (changes_by w c) (names w c n))
unfolding step
step_stays w x (mount any) e = stays_same w (step w (mount any)) _ (ap (λ (u : World). u.drive) (mount-same w x any)) (ap (λ (u : World). u.vol) (mount-same w x any))
step_stays w x (write o bytes) e = write-stays w x o bytes
step_stays w x (begin secret) e = begin-stays w x secret e
step_stays w x (sweep m) e = sweep-stays w x m
step_stays w x finish e = finish-stays w x
step_stays w x (discard m first count) e = discard-stays w x m first count
step_stays w x (asks q) e = stays_same w (step w (asks q)) _ drive vol
  where
    drive : (step w (asks q)).drive ≡ w.drive
    drive = refl

    vol : (step w (asks q)).vol ≡ w.vol
    vol = refl

pub run-stays : (w : World) (x : Sound w) (calls : List Call) → begun_by w calls ≡ false → Stays w (run w calls) (changed_by w calls)
unfolding run among
run-stays w x [] e = stays_same w w _ refl refl
run-stays w x (c ∷ calls) e =
    let q = either_off (begins w c) (begun_by (step w c) calls) e in
    let first = step_stays w x c q.0 in
    let rest = run-stays (step w c) (step_sound w c x) calls q.1 in
    record {
      same_shape = rest.same_shape ∙ first.same_shape;
      same_epoch = rest.same_epoch ∙ first.same_epoch;
      same_record = λ n h off.
          let z = either_off (both (changes_by w c) (names w c n)) (changed_by (step w c) calls n) off in
          let count : (step w c).drive.n ≡ w.drive.n = ap (λ (s : Shape). s.n) first.same_shape in
          rest.same_record n (rw count h) z.1 ∙ first.same_record n h z.0;
    }
