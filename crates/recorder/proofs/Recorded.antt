-- What a session comes to, by the theorems over histories: no hash is computed.
use mathlib.Core.Path.{◌≡◌, refl, sym, ap, subst, ◌∙◌}
use mathlib.Core.Bool.{true, false, not}
use mathlib.Core.Logic.{◌⊎◌, inl, inr, ◌↔◌}
use mathlib.Core.List.{List, [], ◌∷◌, ◌++◌}
use Prim.Native.Nat.{ℕ, ◌+◌, ◌*◌, ◌<◌, ◌≤◌}
use native.Mathlib.Omega.{arith}
use lib.Dec.{eqb}
use lib.ListN.{length, get_or, replicate}
use borrow.Author.Tests.{lt-ltb, le-leb, eq-eqb}
use Rattle.base.specs.Pick.{pick}
use Rattle.base.specs.Lists.{tab, same}
use Rattle.base.proofs.PickLaws.{told, yes, no, clash}
use Rattle.base.proofs.TabLaws.{tab_ext}
use Rattle.answers.specs.Answer as A
use Rattle.answers.specs.Numbers.{accepts}
use Rattle.layout.specs.declared.Shape.{Shape}
use Rattle.layout.specs.Shape.{shape, in_limits, sized, known_version, known_cipher, known, width_of, height_of, height_from}
use Rattle.layout.proofs.Limits.{limits}
use Rattle.records.specs.Record.{record_of}
use Rattle.drive.specs.Drive.{shape_of}
use Rattle.opening.specs.Format.{format_answer, format_done}
use Rattle.opening.specs.Mount.{mount_done}
use Rattle.reading.specs.Read.{read_answer, read_buffer}
use Rattle.reports.specs.Report.{report_of}
use Rattle.changes.specs.Write.{write_done}
use Rattle.changes.specs.Rekey.{begin_done, begin_volume, finish_done, finish_volume}
use Rattle.history.specs.World.{World, Call, asks, read, write, begin, finish}
use Rattle.history.specs.Step.{answer_to, world_after, step}
use Rattle.history.specs.History.{Start, begun, run, history}
use Rattle.history.specs.Answers.{changing, is_left, nuggets_left, Columns, columns, columns_of, columns_after, all_accepted, sweeps_left, to_finish, report_on}
use Rattle.history.proofs.Counts.{many-none}
use Rattle.history.proofs.Sound.{Sound}
use Rattle.history.proofs.Steps.{start_sound, step_sound, run_sound}
use Rattle.history.proofs.Runs.{run-append, step-writes}
use Rattle.history.proofs.Table.{exactly}
use Rattle.history.proofs.Written.{write-accepted}
use Rattle.history.proofs.Demands.{shape-kept, reads_back, share-full}
use Rattle.history.proofs.Moves.{begin-accepted, begin_moves_none, steady-epoch}
use Rattle.history.proofs.Complete.{rest-accepted}
use Rattle.history.proofs.Columns.{follows, columns-start, begin-leaves-all}
use Rattle.history.proofs.Told.{report-tells}
use Rattle.history.proofs.Old.{old-secret-free}
use Rattle.recorder.specs.declared.Setup.{Setup}
use Rattle.recorder.specs.Session.{Holding, holding, after_format, after_write, after_finish, swept_from, noted, unswept, all_swept, left_by}
use Rattle.recorder.proofs.SweepLaws.{holds, sweeps_to, run_swept, Undisturbed, run_keeps, sweeps_are, last-accepted, pick-le, unlike, tab_text}
use Rattle.recorder.specs.Recorded.{Able, Recorded, SessionRecords, MainRecords}

-- an accepted format is of a shape in the limits
in_limits_lem : (s : Shape) (outside : ℕ) (v : List ℕ) → format_answer s outside v ≡ A.Accepted → in_limits s ≡ true
unfolding format_answer
in_limits_lem s outside v e = go (told (in_limits s))
  where
    go : (in_limits s ≡ true) ⊎ (in_limits s ≡ false) → in_limits s ≡ true
    go (inl q) = q
    go (inr q) = absurd (clash (ap accepts e) (ap accepts (no _ q refl)))

module _ (s : Setup) (salt first second v text buffer : List ℕ) (able : Able s salt first second v text buffer) where
  start : Start
  start =
      record {
        shape = s.shape;
        salt = salt;
        secret = first;
        outside = s.outside;
        given = v;
        salted = able.salted;
        low = omega (arith, able.room);
        accepted = able.accepted;
      }

  some : 1 ≤ s.shape.n
  some = (limits s.shape (in_limits_lem s.shape s.outside v able.accepted)).some

  -- format, write, begin, the early finish, the sweeps, the finish
  abbrev w₁ : World
  w₁ = begun start

  abbrev w₂ : World
  w₂ = step w₁ (write s.offset text)

  abbrev w₃ : World
  w₃ = step w₂ (begin second)

  abbrev w₄ : World
  w₄ = step w₃ finish

  abbrev w₅ : World
  w₅ = run w₄ (sweeps_to s.shape.n)

  abbrev w₆ : World
  w₆ = step w₅ finish

  abbrev calls : List Call
  calls = write s.offset text ∷ begin second ∷ finish ∷ (sweeps_to s.shape.n ++ (finish ∷ []))

  x₁ : Sound w₁
  x₁ = start_sound start

  x₂ : Sound w₂
  x₂ = step_sound w₁ (write s.offset text) x₁

  x₃ : Sound w₃
  x₃ = step_sound w₂ (begin second) x₂

  x₄ : Sound w₄
  x₄ = step_sound w₃ finish x₃

  x₆ : Sound w₆
  x₆ = step_sound w₅ finish (run_sound w₄ (sweeps_to s.shape.n) x₄)

  whole : history start calls ≡ w₆
  unfolding run
  whole = run-append w₄ (sweeps_to s.shape.n) (finish ∷ [])

  shape₁ : shape_of w₁.drive ≡ s.shape
  unfolding run start
  shape₁ = (shape-kept start []).0

  shape₂ : shape_of w₂.drive ≡ s.shape
  unfolding run start
  shape₂ = (shape-kept start (write s.offset text ∷ [])).0

  shape₄ : shape_of w₄.drive ≡ s.shape
  unfolding run start
  shape₄ = (shape-kept start (write s.offset text ∷ begin second ∷ finish ∷ [])).0

  shape₆ : shape_of w₆.drive ≡ s.shape
  unfolding start
  shape₆ = ap (λ (w : World). shape_of w.drive) (sym whole) ∙ (shape-kept start calls).0

  -- state, epoch, counter and secret as they go on
  tells₁ : columns_of w₁ ≡ columns false 1 (s.outside + 1) first
  unfolding start
  tells₁ = columns-start start

  inside : (w : World) → shape_of w.drive ≡ s.shape → s.offset + length text ≤ w.drive.n * w.drive.p * w.drive.f
  inside w e = rw (ap (λ (z : Shape). z.n) e, ap (λ (z : Shape). z.p) e, ap (λ (z : Shape). z.f) e) able.inside

  ok₁ : answer_to w₁ (write s.offset text) ≡ A.Accepted
  ok₁ = write-accepted w₁ x₁ (let c = ap (λ (z : Columns). z.counter) tells₁ in omega (arith, c, able.room)) s.offset text (inside w₁ shape₁)

  tells₂ : columns_of w₂ ≡ columns false 1 (s.outside + 1 + pick (eqb (length text) 0) 0 1) first
  tells₂ = follows w₁ x₁ (write s.offset text) ∙ yes _ (ap accepts ok₁) (ap (λ (z : Columns). columns_after w₁ z (write s.offset text)) tells₁)

  ok₂ : answer_to w₂ (begin second) ≡ A.Accepted
  ok₂ =
      begin-accepted w₂ x₂ (let c = ap (λ (z : Columns). z.counter) tells₂ in omega (arith, c, able.room, pick-le (eqb (length text) 0))) second (ap (λ (z : Columns). z.begun) tells₂)
      (ap (same second) (ap (λ (z : Columns). z.secret) tells₂) ∙ unlike second first able.another) (let e = ap (λ (z : Columns). z.epoch) tells₂ in omega (arith, e))

  tells₃ : columns_of w₃ ≡ columns true 2 (s.outside + 1 + pick (eqb (length text) 0) 0 1 + 1) second
  tells₃ = follows w₂ x₂ (begin second) ∙ yes _ (ap accepts ok₂) (ap (λ (z : Columns). columns_after w₂ z (begin second)) tells₂)

  all_left : nuggets_left w₃ ≡ s.shape.n
  unfolding run
  all_left = begin-leaves-all start (write s.offset text ∷ []) second ok₂ ∙ ap (λ (z : Shape). z.n) shape₂

  too_early : answer_to w₃ finish ≡ A.Left s.shape.n
  too_early = exactly w₃ x₃ finish ∙ yes _ (ap (λ (z : Columns). z.begun) tells₃) (yes _ (lt-ltb 0 (nuggets_left w₃) (omega (arith, all_left, some))) (ap A.Left all_left))

  -- so it leaves all as it was
  tells₄ : columns_of w₄ ≡ columns true 2 (s.outside + 1 + pick (eqb (length text) 0) 0 1 + 1) second
  tells₄ = follows w₃ x₃ finish ∙ no _ (ap accepts too_early) tells₃

  drive₄ : w₄.drive ≡ w₃.drive
  unfolding step world_after finish_done
  drive₄ = no _ (ap accepts too_early) refl

  vol₄ : w₄.vol ≡ w₃.vol
  unfolding step world_after finish_volume
  vol₄ = no _ (ap accepts too_early) refl

  kept₄ : holds w₄ ≡ holds w₃
  kept₄ = λ i. holding (drive₄ i) (vol₄ i)

  left₄ : (k : ℕ) → k < s.shape.n → is_left w₄ k ≡ true
  left₄ k h =
      ap (λ (z : Holding). not (eqb (record_of (shape_of z.drive) z.vol k).epoch z.drive.epoch)) kept₄
      ∙ ap not (begin_moves_none w₂ x₂ second ok₂ k (rw (ap (λ (z : Shape). z.n) shape₂) h))

  rest : (all_accepted w₄ (sweeps_to s.shape.n ++ (finish ∷ [])) ≡ true) × (changing (run w₄ (sweeps_to s.shape.n ++ (finish ∷ []))) ≡ false)
  rest =
      let n_is : w₄.drive.n ≡ s.shape.n = ap (λ (z : Shape). z.n) shape₄ in
      let c = ap (λ (z : Columns). z.counter) tells₄ in
      let to : to_finish w₄ ≡ sweeps_to s.shape.n ++ (finish ∷ []) = ap (λ (k : ℕ). sweeps_left w₄ k ++ (finish ∷ [])) n_is ∙ ap (λ (l : List Call). l ++ (finish ∷ [])) (sweeps_are w₄ s.shape.n left₄ s.shape.n (omega arith)) in
      subst (λ (l : List Call). (all_accepted w₄ l ≡ true) × (changing (run w₄ l) ≡ false)) to
      (rest-accepted w₄ x₄ (ap (λ (z : Columns). z.begun) tells₄) (omega (arith, n_is, c, able.room, pick-le (eqb (length text) 0))))

  ok₆ : answer_to w₅ finish ≡ A.Accepted
  ok₆ = last-accepted w₄ (sweeps_to s.shape.n) finish rest.0

  steady : changing w₆ ≡ false
  unfolding run
  steady = ap changing (sym (run-append w₄ (sweeps_to s.shape.n) (finish ∷ []))) ∙ rest.1

  -- what the host holds is what the history's worlds hold
  at₁ : holds w₁ ≡ after_format s salt first v
  unfolding begun start
  at₁ = refl

  at₂ : holds w₂ ≡ noted s salt first second v text
  unfolding step world_after
  at₂ = ap (after_write s.offset text) at₁

  at₃ : holds w₃ ≡ unswept s salt first second v text
  unfolding step world_after
  at₃ = ap (λ (h : Holding). holding (begin_done h.drive h.vol second).drive (begin_volume h.drive h.vol second)) at₂

  at₅ : holds w₅ ≡ all_swept s salt first second v text
  unfolding step world_after
  at₅ = run_swept w₄ s.shape.n ∙ ap (λ (h : Holding). swept_from 0 s.shape.n (after_finish h)) at₃

  at₆ : holds w₆ ≡ left_by s salt first second v text
  unfolding step world_after
  at₆ = ap after_finish at₅

  ok_read : answer_to w₆ (asks (read s.offset buffer)) ≡ A.Accepted
  ok_read = exactly w₆ x₆ (asks (read s.offset buffer)) ∙ yes _ (le-leb (s.offset + length buffer) (w₆.drive.n * w₆.drive.p * w₆.drive.f) (rw able.fitting (inside w₆ shape₆))) refl

  reads : read_buffer w₆.drive w₆.vol s.offset buffer ≡ text
  unfolding step world_after
  reads =
      let read_all = subst (λ (w : World). answer_to w (asks (read s.offset buffer)) ≡ A.Accepted → read_buffer w.drive w.vol s.offset buffer ≡ tab (length buffer) (λ i. w.contents (s.offset + i))) whole (reads_back start calls s.offset buffer) in
      read_all ok_read
      ∙ ap (λ (n : ℕ). tab n (λ i. w₆.contents (s.offset + i))) able.fitting
      ∙ tab_ext (length text) (λ i. w₆.contents (s.offset + i)) (λ i. get_or text i 0) (λ i h. ap (λ (k : Undisturbed). k.0 (s.offset + i)) (run_keeps w₄ s.shape.n) ∙ step-writes w₁ s.offset text i h ok₁)
      ∙ tab_text text

  none_left_lem : (report_on w₆).left ≡ 0
  none_left_lem =
      subst (λ (w : World). (report_on w).left ≡ nuggets_left w) whole (report-tells start calls).left
      ∙ many-none w₆.drive.n (is_left w₆) (λ i h. ap not (eq-eqb (record_of (shape_of w₆.drive) w₆.vol i).epoch w₆.drive.epoch (steady-epoch w₆ x₆ steady i h)))

  secret_is : w₆.secret ≡ second
  unfolding step world_after
  secret_is = ap (λ (k : Undisturbed). k.1) (run_keeps w₄ s.shape.n) ∙ yes _ (ap accepts ok₂) refl

  mounts : (any : List ℕ) → mount_done w₆.vol second any w₆.drive.counter ≡ record { answer = A.Accepted; drive = w₆.drive }
  unfolding step world_after
  mounts any =
      ap (λ (k : List ℕ). mount_done w₆.vol k any w₆.drive.counter) (sym secret_is)
      ∙ subst (λ (w : World). changing w ≡ false → mount_done w.vol w.secret any w.outside ≡ record { answer = A.Accepted; drive = w.drive }) whole (λ e. (old-secret-free start calls e).1 any) steady

  records : Recorded s salt first second v text buffer
  unfolding format_done write_done begin_done finish_done
  records =
      record {
        formatted = able.accepted;
        written = ap (λ (h : Holding). (write_done h.drive h.vol s.offset text).answer) (sym at₁) ∙ ok₁;
        begun = ap (λ (h : Holding). (begin_done h.drive h.vol second).answer) (sym at₂) ∙ ok₂;
        early = ap (λ (h : Holding). (finish_done h.drive h.vol).answer) (sym at₃) ∙ too_early;
        finished = ap (λ (h : Holding). (finish_done h.drive h.vol).answer) (sym at₅) ∙ ok₆;
        read = ap (λ (h : Holding). read_answer h.drive h.vol s.offset (length buffer)) (sym at₆) ∙ ok_read;
        same = ap (λ (h : Holding). read_buffer h.drive h.vol s.offset buffer) (sym at₆) ∙ reads;
        left = ap (λ (h : Holding). (report_of h.drive h.vol).left) (sym at₆) ∙ none_left_lem;
        full = ap (λ (h : Holding). (report_of h.drive h.vol).share) (sym at₆) ∙ (subst (λ (w : World). ((report_on w).share ≡ 10000) ↔ ((report_on w).left ≡ 0)) whole (share-full start calls)).1 none_left_lem;
        free = λ any. subst (λ (h : Holding). mount_done h.vol second any h.drive.counter ≡ record { answer = A.Accepted; drive = h.drive }) at₆ (mounts any);
      }

pub session-records : SessionRecords
session-records s salt first second v text buffer able = records s salt first second v text buffer able

sample_accepted : format_answer (shape 3 2 64) 0 (replicate 862 0) ≡ A.Accepted
unfolding format_answer in_limits sized known known_version known_cipher width_of height_of height_from
sample_accepted = refl

pub main-records : MainRecords
main-records text long =
    record {
      salted = refl;
      accepted = sample_accepted;
      another = λ e. absurd (clash refl (ap (λ (l : List ℕ). eqb (get_or l 0 0) 1) (sym e)));
      inside = rw long (omega arith);
      fitting = sym long;
      room = omega arith;
    }
