-- The example, by the theorems over histories: no hash is computed.
use mathlib.Core.Path.{◌≡◌, refl, sym, ap, ◌∙◌}
use mathlib.Core.Bool.{Bool, true, false, not}
use mathlib.Core.List.{List, [], ◌∷◌}
use Prim.Native.Nat.{ℕ, ◌*◌, ◌<◌}
use native.Mathlib.Omega.{arith}
use lib.Dec.{leb, ltb}
use borrow.Author.Tests.{eq-eqb, ne_eqb, lt-ltb, le-leb}
use Rattle.base.specs.Pick.{both, either}
use Rattle.base.specs.Lists.{tab, same}
use Rattle.base.proofs.PickLaws.{yes, no, both_left, both_right, both-on, both_no}
use Rattle.answers.specs.Answer as A
use Rattle.answers.specs.Numbers.{accepts}
use Rattle.layout.specs.declared.Shape.{Shape}
use Rattle.layout.specs.Shape.{shape_as}
use Rattle.drive.specs.Drive.{shape_of, counter_top}
use Rattle.opening.specs.Format.{fresh_drive}
use Rattle.records.specs.Record.{record_of}
use Rattle.reading.specs.Read.{read_buffer}
use Rattle.answers.proofs.StageLaws.{accepted_is}
use Rattle.changes.specs.Discard.{discards_at}
use Rattle.history.specs.World.{World, Call, mount, write, begin, sweep, finish, discard, asks, read, report, stored}
use Rattle.history.specs.Step.{answer_to, step, alters_at}
use Rattle.history.specs.History.{Start, begun, run, history, among}
use Rattle.history.specs.Answers.{changing, has_moved, is_left, nuggets_left, none_held, Columns, columns, columns_of, columns_after, all_accepted, report_on}
use Rattle.history.proofs.Counts.{many-none}
use Rattle.history.proofs.Starts.{one-nugget-two}
use Rattle.history.proofs.Sound.{Sound}
use Rattle.history.proofs.Steps.{start_sound, begun_drive_lem, step_sound, sound, mount-same}
use Rattle.history.proofs.Table.{exactly}
use Rattle.history.proofs.Written.{alike, write-accepted}
use Rattle.history.proofs.Complete.{accepted-append}
use Rattle.history.proofs.Counters.{run_base}
use Rattle.history.proofs.Demands.{shape-kept, reads_back, written_last, discarded_reads_zero, share-full}
use Rattle.history.proofs.Moves.{begin-accepted, sweep-accepted, finish-accepted, begin_moves_none, swept_own}
use Rattle.history.proofs.Columns.{follows, columns-start}
use Rattle.history.proofs.Told.{report-tells}
use Rattle.history.proofs.Old.{old-secret_needed}
use Rattle.assurances.specs.Example.{secret_of, example, Example, FullIsNotFree}

-- what a step of the example is made on
record At (w : World) (k : Columns) : Type 0 where
  sounds : Sound w
  shaped : shape_of w.drive ≡ shape_as 2 0 1 2 64
  tells : columns_of w ≡ k

at_next : (w : World) (k : Columns) (c : Call) → At w k → answer_to w c ≡ A.Accepted → At (step w c) (columns_after w k c)
unfolding run
at_next w k c x ok =
    record {
      sounds = step_sound w c x.sounds;
      shaped = ap (λ (b : Shape × List ℕ). b.0) (run_base w (c ∷ []) x.sounds) ∙ x.shaped;
      tells = follows w x.sounds c ∙ yes _ (ap accepts ok) (ap (λ (z : Columns). columns_after w z c) x.tells);
    }

-- a mount between two calls
mounted-on : (w : World) (any : List ℕ) (calls : List Call) → Sound w → all_accepted w calls ≡ true → all_accepted w (mount any ∷ calls) ≡ true
unfolding all_accepted
mounted-on w any calls x e = both-on (ap accepts (exactly w x (mount any))) (ap (λ (u : World). all_accepted u calls) (mount-same w x any) ∙ e)

module _ (w : World) (k : Columns) (x : At w k) where
  n_is : w.drive.n ≡ 1
  n_is = ap (λ (s : Shape). s.n) x.shaped

  p_is : w.drive.p ≡ 2
  p_is = ap (λ (s : Shape). s.p) x.shaped

  f_is : w.drive.f ≡ 64
  f_is = ap (λ (s : Shape). s.f) x.shaped

  version_is : w.drive.version ≡ 2
  version_is = ap (λ (s : Shape). s.version) x.shaped

  low : k.counter < 9 → w.drive.counter < counter_top
  low h = let c = ap (λ (z : Columns). z.counter) x.tells in omega (arith, c, h)

  state_is : changing w ≡ k.begun
  state_is = ap (λ (z : Columns). z.begun) x.tells

  epoch_is : w.drive.epoch ≡ k.epoch
  epoch_is = ap (λ (z : Columns). z.epoch) x.tells

  secret_is : w.secret ≡ k.secret
  secret_is = ap (λ (z : Columns). z.secret) x.tells

abbrev bytes : List ℕ
bytes = 1 ∷ 2 ∷ 3 ∷ []

-- the discard, and the calls up to it
abbrev rest₅ : List Call
rest₅ = discard 0 1 1 ∷ mount (secret_of 9) ∷ []

abbrev before : List Call
before =
    write 63 bytes
    ∷ mount (secret_of 9)
    ∷ begin (secret_of 7)
    ∷ mount (secret_of 9)
    ∷ sweep 0
    ∷ mount (secret_of 9)
    ∷ finish
    ∷ mount (secret_of 9)
    ∷ asks report
    ∷ asks (stored 0 1)
    ∷ []

-- what comes after the write, the begin, the sweep and the finish, each with its mount
abbrev rest₄ : List Call
rest₄ = asks report ∷ asks (stored 0 1) ∷ rest₅

abbrev rest₃ : List Call
rest₃ = finish ∷ mount (secret_of 9) ∷ rest₄

abbrev rest₂ : List Call
rest₂ = sweep 0 ∷ mount (secret_of 9) ∷ rest₃

abbrev rest₁ : List Call
rest₁ = begin (secret_of 7) ∷ mount (secret_of 9) ∷ rest₂

module _ (w : World) (x : At w (columns false 1 1 (secret_of 0))) where
  abbrev k₀ : Columns
  k₀ = columns false 1 1 (secret_of 0)

  ok₁ : answer_to w (write 63 bytes) ≡ A.Accepted
  ok₁ = write-accepted w x.sounds (low w k₀ x (omega arith)) 63 bytes (rw (n_is w k₀ x, p_is w k₀ x, f_is w k₀ x) (omega arith))

  abbrev w₁ : World
  w₁ = step w (write 63 bytes)

  abbrev k₁ : Columns
  k₁ = columns false 1 2 (secret_of 0)

  x₁ : At w₁ k₁
  x₁ = at_next w k₀ (write 63 bytes) x ok₁

  ok₂ : answer_to w₁ (begin (secret_of 7)) ≡ A.Accepted
  unfolding same
  ok₂ =
      begin-accepted w₁ x₁.sounds (low w₁ k₁ x₁ (omega arith)) (secret_of 7) (state_is w₁ k₁ x₁) (ap (same (secret_of 7)) (secret_is w₁ k₁ x₁))
      (let e = epoch_is w₁ k₁ x₁ in omega (arith, e))

  abbrev w₂ : World
  w₂ = step w₁ (begin (secret_of 7))

  abbrev k₂ : Columns
  k₂ = columns true 2 3 (secret_of 7)

  x₂ : At w₂ k₂
  x₂ = at_next w₁ k₁ (begin (secret_of 7)) x₁ ok₂

  ok₃ : answer_to w₂ (sweep 0) ≡ A.Accepted
  ok₃ =
      sweep-accepted w₂ x₂.sounds (low w₂ k₂ x₂ (omega arith)) 0 (state_is w₂ k₂ x₂) (rw (n_is w₂ k₂ x₂) (omega arith))
      (begin_moves_none w₁ x₁.sounds (secret_of 7) ok₂ 0 (rw (n_is w₁ k₁ x₁) (omega arith)))

  abbrev w₃ : World
  w₃ = step w₂ (sweep 0)

  abbrev k₃ : Columns
  k₃ = columns true 2 4 (secret_of 7)

  x₃ : At w₃ k₃
  x₃ = at_next w₂ k₂ (sweep 0) x₂ ok₃

  none_left_lem : nuggets_left w₃ ≡ 0
  none_left_lem = many-none w₃.drive.n (is_left w₃) (λ i l. rw (only i (rw (n_is w₃ k₃ x₃) at l)) (ap not moved))
    where
      only : (i : ℕ) → i < 1 → i ≡ 0
      only i l = omega arith

      moved : has_moved w₃ 0 ≡ true
      moved = eq-eqb (record_of (shape_of w₃.drive) w₃.vol 0).epoch w₃.drive.epoch (swept_own w₂ x₂.sounds 0 ok₃ ∙ epoch_is w₂ k₂ x₂ ∙ sym (epoch_is w₃ k₃ x₃))

  ok₄ : answer_to w₃ finish ≡ A.Accepted
  ok₄ = finish-accepted w₃ x₃.sounds (low w₃ k₃ x₃ (omega arith)) (state_is w₃ k₃ x₃) none_left_lem

  abbrev w₄ : World
  w₄ = step w₃ finish

  abbrev k₄ : Columns
  k₄ = columns false 2 5 (secret_of 7)

  x₄ : At w₄ k₄
  x₄ = at_next w₃ k₃ finish x₃ ok₄

  ok₅ : answer_to w₄ (discard 0 1 1) ≡ A.Accepted
  ok₅ =
      exactly w₄ x₄.sounds (discard 0 1 1)
      ∙ no _ (ne_eqb w₄.drive.version 1 (λ e. omega (arith, e, version_is w₄ k₄ x₄)))
      (yes A.PastEnd (both-on (lt-ltb 0 w₄.drive.n (rw (n_is w₄ k₄ x₄) (omega arith))) (le-leb 2 w₄.drive.p (rw (p_is w₄ k₄ x₄) (omega arith))))
      (alike (none_held w₄ 0 1 1) (no _ (ne_eqb w₄.drive.counter counter_top (λ e. omega (arith, e, low w₄ k₄ x₄ (omega arith)))) refl)))

  end : all_accepted w₄ rest₄ ≡ true
  unfolding all_accepted step
  end =
      let shown = exactly w₄ x₄.sounds (asks (stored 0 1)) ∙ yes A.PastEnd (both-on (lt-ltb 0 w₄.drive.n (rw (n_is w₄ k₄ x₄) (omega arith))) (lt-ltb 1 w₄.drive.p (rw (p_is w₄ k₄ x₄) (omega arith)))) refl in
      both-on (ap accepts (exactly w₄ x₄.sounds (asks report))) (both-on (ap accepts shown)
      (both-on (ap accepts ok₅) (mounted-on (step w₄ (discard 0 1 1)) (secret_of 9) [] (step_sound w₄ (discard 0 1 1) x₄.sounds) refl)))

  all_accepted_lem : all_accepted w example ≡ true
  unfolding all_accepted
  all_accepted_lem =
      both-on (ap accepts ok₁)
      (mounted-on w₁ (secret_of 9) rest₁ x₁.sounds
      (both-on (ap accepts ok₂)
      (mounted-on w₂ (secret_of 9) rest₂ x₂.sounds
      (both-on (ap accepts ok₃)
      (mounted-on w₃ (secret_of 9) rest₃ x₃.sounds
      (both-on (ap accepts ok₄) (mounted-on w₄ (secret_of 9) rest₄ x₄.sounds end)))))))

-- there is such a drive
fresh : Start
fresh = one-nugget-two (secret_of 0)

at-start : At (begun fresh) (columns false 1 1 (secret_of 0))
unfolding fresh_drive one-nugget-two fresh
at-start = record { sounds = start_sound fresh; shaped = ap shape_of (begun_drive_lem fresh); tells = columns-start fresh }

abbrev nines : List ℕ
nines = 9 ∷ 9 ∷ 9 ∷ []

read_ok : answer_to (history fresh example) (asks (read 63 nines)) ≡ A.Accepted
unfolding one-nugget-two fresh
read_ok =
    let w = history fresh example in
    let s = (shape-kept fresh example).0 in
    let n_is = ap (λ (z : Shape). z.n) s in
    let p_is = ap (λ (z : Shape). z.p) s in
    let f_is = ap (λ (z : Shape). z.f) s in
    exactly w (sound fresh example) (asks (read 63 nines)) ∙ yes A.PastEnd (le-leb 66 (w.drive.n * w.drive.p * w.drive.f) (rw (n_is, p_is, f_is) (omega arith))) refl

-- the discard is accepted where it is made
freed : answer_to (history fresh before) (discard 0 1 1) ≡ A.Accepted
unfolding all_accepted
freed =
    let w = history fresh before in
    let each = sym (accepted-append (begun fresh) before rest₅) ∙ all_accepted_lem (begun fresh) at-start in
    accepted_is (answer_to w (discard 0 1 1)) (both_left _ _ (both_right (all_accepted (begun fresh) before) (all_accepted w rest₅) each))

-- its range are the offsets 64 to 127
ranged : (a : ℕ) → discards_at (shape_of (history fresh before).drive) 0 1 1 a ≡ both (leb 64 a) (ltb a 128)
unfolding discards_at one-nugget-two fresh
ranged a = ap (λ (s : Shape). discards_at s 0 1 1 a) (shape-kept fresh before).0

-- byte 63 is what was written, the two after it are gone
kept : (history fresh example).contents 63 ≡ 1
unfolding run among
kept = written_last fresh [] (mount (secret_of 9) ∷ rest₁) 63 bytes 0 (omega arith) (ok₁ (begun fresh) at-start) later
  where
    later : among (alters_at 63) (step (begun fresh) (write 63 bytes)) (mount (secret_of 9) ∷ rest₁) ≡ false
    later = rw (ranged 63) (ap (λ (b : Bool). either b false) (both_no (accepts (answer_to (history fresh before) (discard 0 1 1)))))

gone : (a : ℕ) → both (leb 64 a) (ltb a 128) ≡ true → (history fresh example).contents a ≡ 0
unfolding among
gone a inside = discarded_reads_zero fresh before (mount (secret_of 9) ∷ []) 0 1 1 a freed (ranged a ∙ inside) refl

reads : let w = history fresh example in read_buffer w.drive w.vol 63 nines ≡ 1 ∷ 0 ∷ 0 ∷ []
unfolding tab
reads =
    let w = history fresh example in
    let a = kept in
    let b = gone 64 refl in
    let c = gone 65 refl in
    reads_back fresh example 63 nines read_ok ∙ (λ i. a i ∷ b i ∷ c i ∷ [])

pub exampled : Example
unfolding one-nugget-two fresh
exampled = (fresh, refl, all_accepted_lem (begun fresh) at-start, (read_ok, reads))

-- the example up to its sweep
abbrev half : List Call
half = write 63 bytes ∷ begin (secret_of 7) ∷ sweep 0 ∷ []

pub full_is_not_free : FullIsNotFree
unfolding all_accepted run
full_is_not_free =
    let w = begun fresh in
    let left : (report_on (history fresh half)).left ≡ 0 = (report-tells fresh half).left ∙ none_left_lem w at-start in (
      fresh,
      half,
      both-on (ap accepts (ok₁ w at-start)) (both-on (ap accepts (ok₂ w at-start)) (both-on (ap accepts (ok₃ w at-start)) refl)),
      ((share-full fresh half).1 left, none_left_lem w at-start, λ other far. old-secret_needed fresh half other (state_is (w₃ w at-start) (k₃ w at-start) (x₃ w at-start)) far),
    )
