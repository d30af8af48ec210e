-- The statements of specs/Renewals.
use mathlib.Core.Path.{◌≡◌, refl, sym, ap, ◌∙◌}
use mathlib.Core.Bool.{Bool, true, false}
use mathlib.Core.Logic.{◌⊎◌, inl, inr}
use mathlib.Core.List.{List, [], ◌∷◌}
use Prim.Native.Nat.{ℕ, ◌+◌, ◌*◌, ◌<◌, ◌≤◌}
use native.Mathlib.Omega.{arith}
use lib.Dec.{eqb, ltb}
use lib.ListN.{length}
use borrow.Author.Tests.{eq-eqb, ltb-true, lt-ltb}
use Rattle.base.specs.Pick.{pick}
use Rattle.base.proofs.PickLaws.{yes, no, told, clash, either_left, either_right}
use Rattle.answers.specs.Answer.{Answer}
use Rattle.answers.specs.Answer as A
use Rattle.answers.specs.Numbers.{accepts}
use Rattle.answers.proofs.StageLaws.{goes_on, stops, first-answers}
use Rattle.layout.specs.declared.Shape.{Shape}
use Rattle.layout.specs.Shape.{leaves}
use Rattle.layout.specs.Shaped.{Shaped}
use Rattle.layout.proofs.Limits.{limits, lent_small}
use Rattle.records.specs.declared.Record.{Record}
use Rattle.records.specs.Record.{record_of}
use Rattle.tree.specs.Path.{path_of}
use Rattle.tree.specs.Whole.{whole_of}
use Rattle.tree.proofs.PathLaws.{good-path}
use Rattle.drive.specs.declared.Drive.{Drive}
use Rattle.drive.specs.Drive.{shape_of, gauge_of}
use Rattle.drive.proofs.OpeningLaws.{opening-measured}
use Rattle.changes.specs.Rekey.{begun_drive}
use Rattle.changes.proofs.AnswerLaws.{begin-told}
use Rattle.reports.specs.Counts.{count_of}
use Rattle.summaries.specs.Entries.{summary_length, entry_in, built, renewed, renewed_all, listed, Belongs}
use Rattle.summaries.specs.Calls.{top_answer, build_answer, build_summary, renew_answer, renew_summary, renew_each}
use Rattle.summaries.proofs.BelongLaws as Belong
use Rattle.summaries.proofs.SumLaws.{leaf-entry, none-moved}
use Rattle.summaries.proofs.TopLaws.{top_is_report}
use Rattle.history.specs.World.{World, begin}
use Rattle.history.specs.Step.{answer_to, step}
use Rattle.history.specs.History.{run, history}
use Rattle.history.proofs.Quiet.{untouched_lent, whole_quiet}
use Rattle.history.proofs.Sound.{Sound}
use Rattle.history.proofs.Steps.{sound, step_sound, run_sound}
use Rattle.history.proofs.Moves.{begin-leaves, begin_moves_none, steady-epoch}
use Rattle.renewals.specs.Renewals.{Belonging, changed_by, SummariesExactly, TopReports, BuildBelongs, RenewsAfter, StillBelongs, BeginEmpties, BeginSpoils}
use Rattle.renewals.proofs.Stays.{Stays, step_stays, run-stays}

module _ (w : World) (x : Sound w) where
  abbrev d : Drive
  d = w.drive

  abbrev v : List ℕ
  v = w.vol

  lent : Shaped (shape_of w.drive) w.vol
  lent = untouched_lent w.drive w.vol x.untouched

  whole : whole_of (shape_of w.drive) (gauge_of w.drive) w.vol ≡ A.Accepted
  whole = whole_quiet w.drive w.vol x.untouched

  top-answers : (len : ℕ) → top_answer w.drive w.vol len ≡ pick (eqb len (summary_length w.drive.n)) A.Accepted A.Length
  unfolding top_answer
  top-answers len =
      goes_on _ _ (opening-measured d v (ap accepts x.untouched.opens))
      ∙ ap (λ (a : Answer). pick (eqb len (summary_length w.drive.n)) a A.Length) x.untouched.opens

  build-answers : (len : ℕ) → build_answer w.drive w.vol len ≡ pick (eqb len (summary_length w.drive.n)) A.Accepted A.Length
  unfolding build_answer
  build-answers len = first-answers _ _ whole ∙ top-answers len

  renew-answers : (len n : ℕ) → renew_answer w.drive w.vol len n ≡ pick (eqb len (summary_length w.drive.n)) (pick (ltb n w.drive.n) A.Accepted A.PastEnd) A.Length
  unfolding renew_answer
  renew-answers len n = go (told (eqb len (summary_length w.drive.n)))
    where
      path : (ltb n w.drive.n ≡ true) ⊎ (ltb n w.drive.n ≡ false)
          → pick (ltb n w.drive.n) (path_of (shape_of w.drive) (gauge_of w.drive) w.vol n) A.PastEnd ≡ pick (ltb n w.drive.n) A.Accepted A.PastEnd
      path (inl e) =
          let h = ltb-true n w.drive.n e in
          yes _ e (good-path (shape_of d) (gauge_of d) v n lent h x.untouched.good (x.untouched.well n h)) ∙ sym (yes _ e refl)
      path (inr e) = no _ e refl ∙ sym (no _ e refl)

      go : (eqb len (summary_length w.drive.n) ≡ true) ⊎ (eqb len (summary_length w.drive.n) ≡ false)
          → renew_answer w.drive w.vol len n ≡ pick (eqb len (summary_length w.drive.n)) (pick (ltb n w.drive.n) A.Accepted A.PastEnd) A.Length
      go (inl e) = goes_on _ _ (ap accepts (top-answers len ∙ yes _ e refl)) ∙ path (told (ltb n w.drive.n)) ∙ sym (yes _ e refl)
      go (inr e) = let t = top-answers len ∙ no _ e refl in stops _ _ (ap accepts t) ∙ t ∙ sym (no _ e refl)

  -- each call is accepted, so it stores what its definition says
  builds : (b : List ℕ) → length b ≡ summary_length w.drive.n → build_summary w.drive w.vol b ≡ built (shape_of w.drive) w.drive.epoch w.vol b
  unfolding build_summary
  builds b l = yes _ (ap accepts (build-answers (length b) ∙ yes _ (eq-eqb (length b) (summary_length w.drive.n) l) refl)) refl

  renews : (b : List ℕ) (n : ℕ) → length b ≡ summary_length w.drive.n → n < w.drive.n → renew_summary w.drive w.vol b n ≡ renewed (shape_of w.drive) w.drive.epoch w.vol n b
  unfolding renew_summary
  renews b n l h =
      yes _ (ap accepts (renew-answers (length b) n ∙ yes _ (eq-eqb (length b) (summary_length w.drive.n) l) (yes _ (lt-ltb n w.drive.n h) refl))) refl

  renews_each : (ns b : List ℕ) → length b ≡ summary_length w.drive.n → ((n : ℕ) → listed ns n ≡ true → n < w.drive.n)
      → renew_each w.drive w.vol ns b ≡ renewed_all (shape_of w.drive) w.drive.epoch w.vol ns b
  unfolding renew_each renewed_all listed
  renews_each [] b l h = refl
  renews_each (n ∷ ns) b l h =
      let own : n < w.drive.n = h n (either_left (listed ns n) (eq-eqb n n refl)) in
      ap (renew_each d v ns) (renews b n l own)
      ∙ renews_each ns (renewed (shape_of d) d.epoch v n b) (Belong.length-renewed (shape_of d) d.epoch v (lent_small lent) n b own ∙ l) (λ m e. h m (either_right (eqb n m) e))

-- a summary under an equal shape and epoch, and a record under an equal shape
belongs_over : (s t : Shape) (e f : ℕ) (v b : List ℕ) → s ≡ t → e ≡ f → Belongs t f v b → Belongs s e v b
belongs_over s t e f v b p q x = rw (p, q) x

record_over : (s t : Shape) (v u : List ℕ) (n : ℕ) → s ≡ t → record_of s u n ≡ record_of t v n → record_of s v n ≡ record_of s u n
record_over s t v u n p q = ap (λ (z : Shape). record_of z v n) p ∙ sym q

off : (b : Bool) → (b ≡ true → ⊥) → b ≡ false
off true h = absurd (h refl)
off false h = refl

module _ (w u : World) (y : Sound u) (changed : ℕ → Bool) (stays : Stays w u changed) (b : List ℕ) (x : Belonging w b) where
  abbrev s : Shape
  s = shape_of u.drive

  count : u.drive.n ≡ w.drive.n
  count = ap (λ (z : Shape). z.n) stays.same_shape

  given : Belongs (shape_of u.drive) u.drive.epoch w.vol b
  given = belongs_over (shape_of u.drive) (shape_of w.drive) u.drive.epoch w.drive.epoch w.vol b stays.same_shape stays.same_epoch x

  rests : (m : ℕ) → m < u.drive.n → (changed m ≡ true → ⊥) → record_of (shape_of u.drive) w.vol m ≡ record_of (shape_of u.drive) u.vol m
  rests m h not-changed =
      record_over (shape_of u.drive) (shape_of w.drive) w.vol u.vol m stays.same_shape (stays.same_record m (rw count at h) (off (changed m) not-changed))

  after-stays : (ns : List ℕ) → ((n : ℕ) → n < w.drive.n → changed n ≡ true → listed ns n ≡ true) → ((n : ℕ) → listed ns n ≡ true → n < w.drive.n)
      → Belonging u (renew_each u.drive u.vol ns b) × (renew_each u.drive u.vol ns b ≡ build_summary u.drive u.vol b)
  after-stays ns all inside =
      let long : length b ≡ summary_length u.drive.n = given.long in
      let in-u : (n : ℕ) → listed ns n ≡ true → n < u.drive.n = λ n e. rw count (inside n e) in
      let same = renews_each u y ns b long in-u
      ∙ Belong.renewed_is_built s u.drive.epoch w.vol u.vol (λ m. changed m ≡ true) ns b (lent_small (lent u y)) rests (λ m h e. all m (rw count at h) e) in-u given in
      let is-built = same ∙ sym (builds u y b long) in
      (belongs_by (renew_each u.drive u.vol ns b) (built s u.drive.epoch u.vol b) same (Belong.built_belongs s u.drive.epoch u.vol b long), is-built)
    where
      belongs_by : (a c : List ℕ) → a ≡ c → Belonging u c → Belonging u a
      belongs_by a c e z = rw e z

  stays_belong : ((n : ℕ) → n < w.drive.n → changed n ≡ false) → Belonging u b
  stays_belong none = Belong.same_belongs s u.drive.epoch w.vol u.vol b (λ m h. rests m h (λ e. clash e (none m (rw count at h)))) given

pub summaries_exactly : SummariesExactly
summaries_exactly start calls len n =
    let x = sound start calls in
    let w = history start calls in
    record { top = top-answers w x len; build = build-answers w x len; renew = renew-answers w x len n }

pub top_reports : TopReports
top_reports start calls b z = let w = history start calls in top_is_report w.drive w.vol b (whole w (sound start calls)) z

pub build_belongs : BuildBelongs
build_belongs start calls b l =
    let w = history start calls in
    rw (builds w (sound start calls) b l) (Belong.built_belongs (shape_of w.drive) w.drive.epoch w.vol b l)

pub renews_after : RenewsAfter
renews_after start calls more ns b none all inside z =
    let w = history start calls in
    let x = sound start calls in
    after-stays w (run w more) (run_sound w more x) (changed_by w more) (run-stays w x more none) b z ns all inside

pub still_belongs : StillBelongs
still_belongs start calls c b none rest z =
    let w = history start calls in
    let x = sound start calls in
    stays_belong w (step w c) (step_sound w c x) _ (step_stays w x c none) b z rest

module _ (w : World) (x : Sound w) (secret b : List ℕ) (e : answer_to w (begin secret) ≡ A.Accepted) (z : Belonging (step w (begin secret)) b) where
  abbrev u : World
  u = step w (begin secret)

  y : Sound (step w (begin secret))
  y = step_sound w (begin secret) x

  same-n : (step w (begin secret)).drive.n ≡ w.drive.n
  unfolding begun_drive
  same-n = ap (λ (k : Drive). k.n) (begin-leaves w x secret e)

  emptied : (i : ℕ) → 1 ≤ i → i < 2 * leaves w.drive.n → ((entry_in b i).moved ≡ 0) × ((entry_in b i).done ≡ 0)
  emptied i a l =
      none-moved (shape_of u.drive) u.drive.epoch u.vol (lent_small (lent u y)) b z (λ n h. begin_moves_none w x secret e n (rw same-n at h)) i a
      (rw same-n l)

  -- in a steady drive the leaf of nugget 0 has moved
  spoilt : Belonging w b → ⊥
  unfolding count_of
  spoilt q =
      let small = lent_small (lent w x) in
      let some = (limits (shape_of w.drive) (lent w x).limited).some in
      let leaf = leaf-entry (shape_of w.drive) w.drive.epoch w.vol small b q 0 (omega (arith, some)) in
      let steady = steady-epoch w x (begin-told w.drive w.vol secret (ap accepts e)).steady 0 (omega (arith, some)) in
      let none = (emptied (leaves w.drive.n + 0) (omega (arith, small.some_leaves)) (omega (arith, small.some_leaves))).0 in
      let one : (entry_in b (leaves w.drive.n + 0)).moved ≡ 1 = rw leaf (counts (record_of (shape_of w.drive) w.vol 0) steady) in
      absurd (omega (arith, none, one))
    where
      counts : (r : Record) → r.epoch ≡ w.drive.epoch → (count_of 64 w.drive.epoch r).moved ≡ 1
      counts r h = yes _ (eq-eqb r.epoch w.drive.epoch h) refl

pub begin_empties : BeginEmpties
begin_empties start calls secret b e z = emptied (history start calls) (sound start calls) secret b e z

pub begin_spoils : BeginSpoils
begin_spoils start calls secret b e q z = spoilt (history start calls) (sound start calls) secret b e z q
