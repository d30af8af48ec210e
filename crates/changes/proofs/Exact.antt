-- Where nothing is altered the calls that change answer by numbers alone; and what an accepted one makes of the drive's state,
-- numbers and secrets.
use mathlib.Core.Path.{◌≡◌, refl, ap}
use mathlib.Core.Bool.{Bool, true, false, not}
use mathlib.Core.List.{List}
use Prim.Native.Nat.{ℕ, zero, suc, ◌+◌, ◌*◌, ◌-◌, ◌^◌, ◌<◌, ◌≤◌}
use native.Mathlib.Omega.{arith}
use lib.Dec.{eqb, leb, ltb}
use borrow.Author.Tests.{ltb-true}
use Rattle.base.specs.Pick.{pick, both}
use Rattle.base.specs.Lists.{same}
use Rattle.base.proofs.PickLaws.{yes, clash, both_left}
use Rattle.answers.specs.Answer.{Answer}
use Rattle.answers.specs.Answer as A
use Rattle.answers.specs.Numbers.{accepts}
use Rattle.answers.specs.Stages.{and_then}
use Rattle.records.specs.declared.Way.{Way}
use Rattle.records.specs.Journal.{many}
use Rattle.records.specs.Rule.{rekeys}
use Rattle.records.specs.Record.{record_of}
use Rattle.tree.specs.Whole.{whole_of}
use Rattle.drive.specs.declared.Drive.{Drive}
use Rattle.drive.specs.declared.State.{State}
use Rattle.drive.specs.declared.State.TheVariants.{Steady, Changing}
use Rattle.drive.specs.Drive.{shape_of, gauge_of, is_changing, kept_old, zeros, counter_top}
use Rattle.drive.specs.Opening.{opening_of}
use Rattle.nuggets.specs.Tests.{flakes_of, path_for}
use Rattle.drive.proofs.OpeningLaws.{opening_lent}
use Rattle.nuggets.proofs.TouchLaws.{fits-leb}
use Rattle.reports.specs.Counts.{is_moved}
use Rattle.reports.proofs.Exact.{many_not}
use Rattle.changes.specs.Change.{idles, nugget_change, tested_to, advanced}
use Rattle.changes.specs.Write.{write_way, write_answer}
use Rattle.changes.specs.Rekey.{begin_tests, begin_answer, begun_drive, move_tests, nugget_tests, sweep_answer, left_in, finish_tests, finish_answer, finished_drive}
use Rattle.changes.specs.Discard.{range_fits, clears_none, clear_tests, discard_answer}

-- every test that could call drive or volume altered passes
pub record Clean (d : Drive) (v : List ℕ) : Type 0 where
  pub opens : opening_of d v ≡ A.Accepted
  pub paths : (n : ℕ) → n < d.n → path_for d v n ≡ A.Accepted
  pub whole : whole_of (shape_of d) (gauge_of d) v ≡ A.Accepted
  pub flakes : (n : ℕ) → n < d.n → flakes_of d v n (record_of (shape_of d) v n).held ≡ A.Accepted

-- behind a test, where it holds and where it doesn't
pub yes_same : (b : Bool) {A : Type 0} {x y : A} (r : A) → (b ≡ true → x ≡ y) → pick b x r ≡ pick b y r
yes_same true r e = e refl
yes_same false r e = refl

pub no_same : (b : Bool) {A : Type 0} {x y : A} (r : A) → (b ≡ false → x ≡ y) → pick b r x ≡ pick b r y
no_same true r e = refl
no_same false r e = e refl

taken : (b : Bool) {x y : Answer} → x ≡ A.Accepted → y ≡ A.Accepted → pick b x y ≡ A.Accepted
taken true p q = p
taken false p q = q

module _ (d : Drive) (v : List ℕ) (x : Clean d v) where
  nugget-taken : (n : ℕ) (way : Way) → n < d.n → nugget_change d v n way ≡ A.Accepted
  unfolding nugget_change and_then
  nugget-taken n way h = taken (idles way) refl (yes _ (ap accepts (x.paths n h)) (taken (rekeys way) (x.flakes n h) refl))

  tested_taken : (way : ℕ → Way) (n : ℕ) → n ≤ d.n → tested_to d v way n ≡ A.Accepted
  unfolding tested_to and_then
  tested_taken way zero h = refl
  tested_taken way (suc n) h = yes _ (ap accepts (tested_taken way n (omega arith))) (nugget-taken n (way n) (omega arith))

  pub write_exact : (o len : ℕ) → write_answer d v o len
      ≡ pick (leb (o + len) (d.n * d.p * d.f)) (pick (eqb len 0) A.Accepted (pick (eqb d.counter (2 ^ 64 - 1)) A.CounterTop A.Accepted)) A.PastEnd
  unfolding write_answer and_then
  write_exact o len =
      yes _ (ap accepts x.opens)
      (rw (fits-leb (shape_of d) o len (opening_lent d v (ap accepts x.opens)).limited)
      (yes_same (leb (o + len) (d.n * d.p * d.f)) _
      (λ fits. no_same (eqb len 0) _ (λ some. no_same (eqb d.counter counter_top) _ (λ low. tested_taken (write_way d v o len) d.n (omega arith))))))

  pub begin_exact : (secret : List ℕ) → begin_answer d v secret
      ≡ pick (is_changing d.state) A.State
      (pick (same secret d.present) A.SameSecret (pick (eqb d.epoch 65535) A.EpochTop (pick (eqb d.counter (2 ^ 64 - 1)) A.CounterTop A.Accepted)))
  unfolding begin_answer begin_tests and_then
  begin_exact secret = yes _ (ap accepts x.opens) refl

  pub sweep_exact : (n : ℕ) → sweep_answer d v n
      ≡ pick (is_changing d.state)
      (pick (ltb n d.n) (pick (eqb (record_of (shape_of d) v n).epoch d.epoch) A.Moved (pick (eqb d.counter (2 ^ 64 - 1)) A.CounterTop A.Accepted)) A.PastEnd)
      A.State
  unfolding sweep_answer nugget_tests move_tests and_then
  sweep_exact n =
      yes _ (ap accepts x.opens)
      (yes_same (is_changing d.state) _
      (λ changing. yes_same (ltb n d.n) _
      (λ h. yes _ (ap accepts (x.paths n (ltb-true n d.n h)))
      (no_same (eqb (record_of (shape_of d) v n).epoch d.epoch) _
      (λ left. no_same (eqb d.counter counter_top) _
      (λ low. x.flakes n (ltb-true n d.n h)))))))

  pub discard_exact : (n first count : ℕ) → discard_answer d v n first count
      ≡ pick (eqb d.version 1) A.State
      (pick (both (ltb n d.n) (leb (first + count) d.p))
      (pick (clears_none d v n first count) A.Accepted (pick (eqb d.counter (2 ^ 64 - 1)) A.CounterTop A.Accepted)) A.PastEnd)
  unfolding discard_answer clear_tests range_fits and_then
  discard_exact n first count =
      yes _ (ap accepts x.opens)
      (no_same (eqb d.version 1) _
      (λ later. yes_same (both (ltb n d.n) (leb (first + count) d.p)) _
      (λ h. yes _ (ap accepts (x.paths n (ltb-true n d.n (both_left (ltb n d.n) (leb (first + count) d.p) h)))) refl)))

  -- those left, counted one by one
  pub left-counted : left_in d v ≡ many d.n (λ i. not (eqb (record_of (shape_of d) v i).epoch d.epoch))
  left-counted = many_not d.n (is_moved (shape_of d) d.epoch v)

  pub finish_exact : let left = many d.n (λ i. not (eqb (record_of (shape_of d) v i).epoch d.epoch)) in
      finish_answer d v
      ≡ pick (is_changing d.state) (pick (ltb 0 left) (A.Left left) (pick (eqb d.counter (2 ^ 64 - 1)) A.CounterTop A.Accepted)) A.State
  unfolding finish_answer finish_tests and_then
  finish_exact = yes _ (ap accepts x.opens) (rw (x.whole, left-counted) refl)

-- "Begin takes a new secret: state changing, epoch plus 1, the old secret kept."
pub begun_makes : (d : Drive) (secret : List ℕ) → let e = begun_drive d secret in
    (is_changing e.state ≡ true) × (e.epoch ≡ d.epoch + 1) × (e.counter ≡ d.counter + 1) × (e.present ≡ secret) × (e.old ≡ d.present)
unfolding begun_drive
begun_makes d secret = (refl, refl, refl, refl, refl)

-- "Finish makes the state steady"
pub finished_makes : (d : Drive) → let e = finished_drive d in
    (is_changing e.state ≡ false) × (e.epoch ≡ d.epoch) × (e.counter ≡ d.counter + 1) × (e.present ≡ d.present)
unfolding finished_drive
finished_makes d = (refl, refl, refl, refl)

-- "In a steady drive the old secret isn't looked at; an accepted change or mount leaves zeros there."
steady_kept : (s : State) (old : List ℕ) → is_changing s ≡ false → kept_old s old ≡ zeros 32
steady_kept Steady old e = refl
steady_kept (Changing left) old e = absurd (clash refl e)

pub advanced-old : (d : Drive) (w : List ℕ) → is_changing d.state ≡ false → (advanced d w).old ≡ zeros 32
unfolding advanced
advanced-old d w steady = steady_kept d.state d.old steady
