-- The answer of a write: the tests of one nugget, and one turn over the nuggets that the range meets.
use mathlib.Core.Path.{◌≡◌, refl, sym, ap, ◌∙◌}
use mathlib.Core.Bool.{true, false}
use mathlib.Core.List.{List}
use Prim.Native.Nat.{ℕ, ◌+◌, ◌-◌, ◌<◌, ◌≤◌}
use native.Mathlib.Numerals.{add-one}
use native.Mathlib.Omega.{arith}
use borrow.Author.Tests.{eq-eqb, ne_eqb, lt-ltb, le-ltb}
use lib.ListN.{length}
use Rattle.base.proofs.PickLaws.{yes, no, both-on, both_off}
use Rattle.layout.specs.declared.Shape.{Shape}
use Rattle.layout.specs.Shape.{in_limits}
use Rattle.layout.specs.Spots.{spot_at, capacity}
use Rattle.layout.specs.Shaped.{Shaped}
use Rattle.layout.proofs.Limits.{limits}
use Rattle.answers.specs.Answer.{Answer}
use Rattle.answers.specs.Answer as A
use Rattle.answers.specs.Numbers.{accepts}
use Rattle.answers.proofs.StageLaws.{goes_on, stops, first-answers}
use Rattle.records.specs.declared.Record.{Record}
use Rattle.records.specs.declared.Way.{Way}
use Rattle.records.specs.declared.Way.TheVariants.{Idle, Add, Rekey, Clear}
use Rattle.records.specs.Rule.{way_of, sweep_way}
use Rattle.drive.specs.declared.Drive.{Drive}
use Rattle.drive.specs.Drive.{shape_of, counter_top}
use Rattle.drive.specs.Opening.{opening_of}
use Rattle.drive.proofs.OpeningLaws.{opening_lent}
use Rattle.nuggets.specs.declared.Nugget.{Nugget}
use Rattle.nuggets.specs.Nugget.{nugget_of}
use Rattle.nuggets.specs.Tests.{path_for, flakes_tested}
use Rattle.nuggets.specs.Touched.{touched_of, fits_in}
use Rattle.nuggets.proofs.TouchLaws.{fits-within}
use Rattle.changes.specs.Change.{nugget_change, tested_to, settled}
use Rattle.changes.specs.Write.{write_way, write_answer, writes, write_work, written_drive, write_done_at, write_volume_at, write_done, write_volume}
use Rattle.changes.proofs.SpanLaws.{still_to, idle-below, idle-above, tested_idle, tested_next, tested_stays}
use Rattle.records.specs.Record.{record_of}

-- the way of a nugget, by what the calls gave
pub way_is : (d : Drive) (v : List ℕ) (o len n : ℕ) {r : Record} {s : Shape} {t : ℕ} {w : Way} → r ≡ record_of (shape_of d) v n → s ≡ shape_of d → t ≡ touched_of s o len n → w ≡ way_of r t d.epoch
    → w ≡ write_way d v o len n
way_is d v o len n er es et ew = ew ∙ rw (et, er, es)

-- the tests of one nugget
module _ (d : Drive) (v : List ℕ) (n : ℕ) where
  pub rekey-path : {a : Answer} → a ≡ path_for d v n → accepts a ≡ false → a ≡ nugget_change d v n sweep_way
  unfolding nugget_change
  rekey-path e h = e ∙ sym (stops (path_for d v n) _ (ap accepts (sym e) ∙ h))

  pub rekey-flakes : {a r : Answer} {g : Nugget} {s : Shape} → a ≡ path_for d v n → accepts a ≡ true → g ≡ nugget_of d v n → s ≡ shape_of d
      → r ≡ flakes_tested s v g g.held → r ≡ nugget_change d v n sweep_way
  unfolding nugget_change
  rekey-flakes {g = g} e h eg es er =
      er
      ∙ ap (λ (x : Shape). flakes_tested x v g g.held) es
      ∙ ap (λ (x : Nugget). flakes_tested (shape_of d) v x x.held) eg
      ∙ sym (goes_on (path_for d v n) _ (ap accepts (sym e) ∙ h))

  pub change_idle : {way : Way} → way ≡ Idle → A.Accepted ≡ nugget_change d v n way
  unfolding nugget_change
  change_idle e = rw e

  pub change_add : (t : ℕ) {way : Way} {r : Answer} → way ≡ Add t → r ≡ path_for d v n → r ≡ nugget_change d v n way
  unfolding nugget_change
  change_add t e h = rw e (h ∙ sym (first-answers (path_for d v n) A.Accepted refl))

  -- no write clears; the path alone too
  pub change_clear : (m : ℕ) {way : Way} {r : Answer} → way ≡ Clear m → r ≡ path_for d v n → r ≡ nugget_change d v n way
  unfolding nugget_change
  change_clear m e h = rw e (h ∙ sym (first-answers (path_for d v n) A.Accepted refl))

  -- a rekey's tests don't ask what it touches
  pub change_rekey : (t : ℕ) {way : Way} {r : Answer} → way ≡ Rekey t → r ≡ nugget_change d v n sweep_way → r ≡ nugget_change d v n way
  unfolding nugget_change
  change_rekey t e h = rw e h

-- one turn over the nuggets that the range meets
module _ (d : Drive) (v : List ℕ) (o len : ℕ) where
  abbrev way : ℕ → Way
  way = write_way d v o len

  pub span_start : in_limits (shape_of d) ≡ true → tested_to d v (write_way d v o len) (spot_at (shape_of d) o).nugget ≡ A.Accepted
  unfolding tested_to
  span_start h = still_to (tested_to d v way) 0 (spot_at (shape_of d) o).nugget (omega arith) (λ m a b. tested_idle way m (idle-below d v o len (limits (shape_of d) h) m b) d v)

  pub span_turn : (n : ℕ) {w : Way} {a : Answer} → tested_to d v (write_way d v o len) n ≡ A.Accepted → w ≡ write_way d v o len n → a ≡ nugget_change d v n w
      → tested_to d v (write_way d v o len) (n + 1) ≡ a
  span_turn n h ew ea = rw (add-one n) (tested_next d v way n h ∙ sym (ea ∙ ap (λ (x : Way). nugget_change d v n x) ew))

  pub span_off : (n : ℕ) {a : Answer} → n < d.n → tested_to d v (write_way d v o len) (n + 1) ≡ a → accepts a ≡ false → a ≡ tested_to d v (write_way d v o len) d.n
  span_off n h e t = sym e ∙ sym (tested_stays d v way d.n (n + 1) (omega arith) (ap accepts e ∙ t))

  pub span_end : (n : ℕ) → in_limits (shape_of d) ≡ true → 0 < len → (spot_at (shape_of d) (o + (len - 1))).nugget < n → n ≤ d.n → tested_to d v (write_way d v o len) n ≡ A.Accepted
      → A.Accepted ≡ tested_to d v (write_way d v o len) d.n
  span_end n h some past few e =
      sym (still_to (tested_to d v way) n d.n few (λ m a b. tested_idle way m (idle-above d v o len (limits (shape_of d) h) m some (omega (arith, past, a))) d v) ∙ e)

-- the answer, by its tests
module _ (d : Drive) (v : List ℕ) (o len : ℕ) where
  pub answer-opening : {a : Answer} → a ≡ opening_of d v → accepts a ≡ false → a ≡ write_answer d v o len
  unfolding write_answer
  answer-opening e h = e ∙ sym (stops (opening_of d v) _ (ap accepts (sym e) ∙ h))

  module _ {a : Answer} {s : Shape} (ea : a ≡ opening_of d v) (open' : accepts a ≡ true) (es : s ≡ shape_of d) where
    opened : accepts (opening_of d v) ≡ true
    opened = ap accepts (sym ea) ∙ open'

    pub answer-past : fits_in s o len ≡ false → A.PastEnd ≡ write_answer d v o len
    unfolding write_answer
    answer-past f = sym (goes_on (opening_of d v) _ opened ∙ no _ (ap (λ (x : Shape). fits_in x o len) (sym es) ∙ f) refl)

    module _ (f : fits_in s o len ≡ true) where
      within : fits_in (shape_of d) o len ≡ true
      within = ap (λ (x : Shape). fits_in x o len) (sym es) ∙ f

      pub answer-empty : len ≡ 0 → A.Accepted ≡ write_answer d v o len
      unfolding write_answer
      answer-empty z = sym (goes_on (opening_of d v) _ opened ∙ yes _ within (yes _ (eq-eqb len 0 z) refl))

      pub answer-top : (len ≡ 0 → ⊥) → d.counter ≡ counter_top → A.CounterTop ≡ write_answer d v o len
      unfolding write_answer
      answer-top z t = sym (goes_on (opening_of d v) _ opened ∙ yes _ within (no _ (ne_eqb len 0 z) (yes _ (eq-eqb _ _ t) refl)))

      pub answer_tests : {r : Answer} → (len ≡ 0 → ⊥) → (d.counter ≡ counter_top → ⊥) → r ≡ tested_to d v (write_way d v o len) d.n → r ≡ write_answer d v o len
      unfolding write_answer
      answer_tests z t e = e ∙ sym (goes_on (opening_of d v) _ opened ∙ yes _ within (no _ (ne_eqb len 0 z) (no _ (ne_eqb _ _ t) refl)))

      -- what the tests of nuggets may ask
      pub answer_lent : Shaped (shape_of d) v × (o + len ≤ capacity (shape_of d))
      answer_lent = (opening_lent d v opened, fits-within d o len refl within)

-- the answer, with the drive and the volume that it leaves
module _ (d : Drive) (v : List ℕ) (o : ℕ) (bytes : List ℕ) {a : Answer} (ea : a ≡ write_answer d v o (length bytes)) where
  abbrev Met : Drive → List ℕ → Type 0
  Met r w = (record { answer = a; drive = r } ≡ write_done d v o bytes) × (w ≡ write_volume d v o bytes)

  met : {r : Drive} {w : List ℕ} → r ≡ (write_done_at a d v o bytes).drive → w ≡ write_volume_at a d v o bytes → Met r w
  unfolding write_done write_volume
  met er ew =
      (ap (λ (x : Drive). record { answer = a; drive = x }) er ∙ ap (λ (x : Answer). write_done_at x d v o bytes) ea, ew ∙ ap (λ (x : Answer). write_volume_at x d v o bytes) ea)

  pub met_stored : accepts a ≡ true → 0 < length bytes → {r : Drive} {w : List ℕ} → r ≡ written_drive d v o bytes → w ≡ settled (written_drive d v o bytes) (write_work d v o bytes)
      → (record { answer = a; drive = r } ≡ write_done d v o bytes) × (w ≡ write_volume d v o bytes)
  met_stored h some er ew =
      let on : writes a bytes ≡ true = both-on h (lt-ltb 0 (length bytes) some) in
      met (er ∙ sym (yes _ on refl)) (ew ∙ sym (yes _ on refl))

  kept : writes a bytes ≡ false → (record { answer = a; drive = d } ≡ write_done d v o bytes) × (v ≡ write_volume d v o bytes)
  kept off = met (sym (no _ off refl)) (sym (no _ off refl))

  pub met_empty : accepts a ≡ true → length bytes ≤ 0 → (record { answer = a; drive = d } ≡ write_done d v o bytes) × (v ≡ write_volume d v o bytes)
  met_empty h none = kept (both-on h (le-ltb 0 (length bytes) none))

  pub met_refused : accepts a ≡ false → (record { answer = a; drive = d } ≡ write_done d v o bytes) × (v ≡ write_volume d v o bytes)
  met_refused h = kept (both_off _ h)
