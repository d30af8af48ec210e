-- The tests of a move: one turn of each loop, what an accepted move says, and both halves of the promise from one answer.
use mathlib.Core.Path.{◌≡◌, refl, sym, ap, ◌∙◌}
use mathlib.Core.Bool.{true, false}
use mathlib.Core.Logic.{◌⊎◌, inl, inr}
use mathlib.Core.List.{List}
use Prim.Native.Nat.{ℕ, zero, suc, ◌+◌, ◌-◌, ◌<◌, ◌≤◌}
use native.Mathlib.Numerals.{add-one}
use native.Mathlib.Omega.{arith}
use lib.Dec.{eqb}
use lib.ListN.{length}
use borrow.Author.Tests.{eq-eqb, ne_eqb, eqb-true, eqb-false}
use Rattle.base.proofs.PickLaws.{yes, no, both_left, both_right, both-on, told}
use Rattle.answers.specs.Answer.{Answer}
use Rattle.answers.specs.Answer as A
use Rattle.answers.specs.Numbers.{accepts}
use Rattle.answers.proofs.StageLaws.{goes_on, stops, both_stages, passed, spared, accepted_is}
use Rattle.layout.specs.declared.Shape.{Shape}
use Rattle.layout.specs.Shape.{sized, known_version, known, in_limits, within}
use Rattle.layout.proofs.Limits.{inside}
use Rattle.layout.specs.Shaped.{Shaped}
use Rattle.layout.specs.Parts.{length_of}
use Rattle.records.specs.declared.Record.{Record}
use Rattle.records.specs.Record.{record_of}
use Rattle.tree.specs.Whole.{whole_of}
use Rattle.drive.specs.declared.Drive.{Drive}
use Rattle.drive.specs.declared.Done.{Done}
use Rattle.drive.specs.Drive.{shape_of, gauge_of, counter_top}
use Rattle.drive.specs.Opening.{measure_of, opening_of}
use Rattle.drive.proofs.OpeningLaws.{opening-measured, opening_lent}
use Rattle.nuggets.specs.declared.Nugget.{Nugget}
use Rattle.nuggets.specs.Nugget.{nugget_of}
use Rattle.nuggets.specs.Tests.{flakes_tested}
use Rattle.moving.specs.Carry.{entering, entered, SameSizes, moved_drive, moved_volume}
use Rattle.moving.specs.Move.{ascending, held_tests, kept_tests, last_tests, parts_tests, leave_tests, move_answer, move_done, move_second}

-- the loop over the nuggets: its start, its turn, its refusal and its end
module _ (test : ℕ → Answer) where
  pub ascends : (count : ℕ) → ascending test (count - 0) 0 ≡ ascending test count 0
  ascends count = let e : count - 0 ≡ count = omega arith in rw e

  pub ascends_on : (count n : ℕ) → n < count → accepts (test n) ≡ true → ascending test (count - (n + 1)) (n + 1) ≡ ascending test (count - n) n
  unfolding ascending
  ascends_on count n h e =
      let k : count - n ≡ suc (count - (n + 1)) = omega arith in
      rw (k, add-one n) (sym (goes_on (test n) _ e))

  pub ascends_off : (count n : ℕ) → n < count → accepts (test n) ≡ false → test n ≡ ascending test (count - n) n
  unfolding ascending
  ascends_off count n h e = let k : count - n ≡ suc (count - (n + 1)) = omega arith in rw k (sym (stops (test n) _ e))

  pub ascends_end : (count n : ℕ) → count ≤ n → A.Accepted ≡ ascending test (count - n) n
  unfolding ascending
  ascends_end count n h = let k : count - n ≡ 0 = omega arith in rw k

  -- accepted: every test is
  pub each-accepted : (k m : ℕ) → accepts (ascending test k m) ≡ true → (n : ℕ) → m ≤ n → n < m + k → test n ≡ A.Accepted
  unfolding ascending
  each-accepted zero m e n a b = absurd (omega arith)
  each-accepted (suc k) m e n a b = go (told (eqb m n)) (λ low. each-accepted k (suc m) stages.1 n low (omega arith))
    where
      stages : (accepts (test m) ≡ true) × (accepts (ascending test k (suc m)) ≡ true)
      stages = both_stages (test m) (ascending test k (suc m)) e

      go : (eqb m n ≡ true) ⊎ (eqb m n ≡ false) → (suc m ≤ n → test n ≡ A.Accepted) → test n ≡ A.Accepted
      go (inl q) again = rw (← eqb-true m n q) (accepted_is (test m) stages.0)
      go (inr q) again = again (omega (arith, eqb-false m n q))

  -- and these give acceptance
  pub all_accepted_lem : (k m : ℕ) → ((n : ℕ) → m ≤ n → n < m + k → test n ≡ A.Accepted) → ascending test k m ≡ A.Accepted
  unfolding ascending
  all_accepted_lem zero m x = refl
  all_accepted_lem (suc k) m x =
      goes_on (test m) _ (ap accepts (x m (omega arith) (omega arith))) ∙ all_accepted_lem k (suc m) (λ n a b. x n (omega arith) (omega arith))

-- a nugget's held flakes, and its masks, as the code tests them
module _ (d : Drive) (v : List ℕ) (n : ℕ) where
  pub held_is : {s : Shape} {g : Nugget} {a : Answer} → s ≡ shape_of d → g ≡ nugget_of d v n → a ≡ flakes_tested s v g g.held → a ≡ held_tests d v n
  held_is {g = g} es eg ea = ea ∙ ap (λ (z : Shape). flakes_tested z v g g.held) es ∙ ap (λ (z : Nugget). flakes_tested (shape_of d) v z z.held) eg

module _ (s : Shape) (v : List ℕ) (n : ℕ) {r : Record} (is : r ≡ record_of s v n) where
  pub kept_is : r.spent ≡ r.held → kept_tests s v n ≡ A.Accepted
  kept_is h = yes _ (eq-eqb _ _ (ap (λ (z : Record). z.spent) (sym is) ∙ h ∙ ap (λ (z : Record). z.held) is)) refl

  pub kept_not : (r.spent ≡ r.held → ⊥) → A.Discarded n ≡ kept_tests s v n
  kept_not h = sym (no _ (ne_eqb _ _ (λ e. h (ap (λ (z : Record). z.spent) is ∙ e ∙ ap (λ (z : Record). z.held) (sym is)))) refl)

-- the other version's shape is in limits too, and has the same sizes
module _ (e : ℕ) (d : Drive) where
  pub entered-limited : known_version e ≡ true → in_limits (shape_of d) ≡ true → in_limits (entered e d) ≡ true
  unfolding in_limits sized known
  entered-limited k h = both-on (both_left (sized (shape_of d)) _ h) (both-on k (both_right (known_version d.version) _ (both_right (sized (shape_of d)) _ h)))

  -- so the code's length is the shape's
  pub entered-long : {x : Drive} {t : Shape} {k : ℕ} → known_version e ≡ true → in_limits (shape_of d) ≡ true → x ≡ entering e d → t ≡ shape_of x
      → k ≡ within t (length_of t) → k ≡ length_of (entered e d)
  entered-long known h ex et ek = ek ∙ rw (et, ex) (inside (entered e d) (entered-limited known h))

  pub entered-sizes : SameSizes (shape_of d) (entered e d)
  entered-sizes = record { nuggets = refl; flakes = refl; bytes = refl }

-- what an accepted move says of drive and volume
pub record Leaves (leave enter : ℕ) (d : Drive) (v : List ℕ) (len : ℕ) : Type 0 where
  pub opens : opening_of d v ≡ A.Accepted
  pub lent : Shaped (shape_of d) v
  pub long : len ≡ length_of (entered enter d)
  pub left : d.version ≡ leave
  pub whole : whole_of (shape_of d) (gauge_of d) v ≡ A.Accepted
  pub held : (n : ℕ) → n < d.n → held_tests d v n ≡ A.Accepted
  pub kept : (n : ℕ) → n < d.n → (record_of (shape_of d) v n).spent ≡ (record_of (shape_of d) v n).held
  pub counter_room : d.counter ≡ counter_top → ⊥

module _ (leave enter : ℕ) (d : Drive) (v : List ℕ) where
  pub move_told : (len : ℕ) → accepts (move_answer leave enter d v len) ≡ true → Leaves leave enter d v len
  unfolding move_answer leave_tests parts_tests last_tests
  move_told len e =
      let measured = both_stages (measure_of d v) _ e in
      let second = passed (eqb len (length_of (entered enter d))) _ A.Length refl measured.1 in
      let opened = both_stages (opening_of d v) _ second.1 in
      let left = passed (eqb d.version leave) _ A.State refl opened.1 in
      let whole = both_stages (whole_of (shape_of d) (gauge_of d) v) _ left.1 in
      let held = both_stages (ascending (held_tests d v) d.n 0) _ whole.1 in
      let kept = both_stages (ascending (kept_tests (shape_of d) v) d.n 0) _ held.1 in
      let room = spared (eqb d.counter counter_top) A.CounterTop _ refl kept.1 in
      record {
        opens = accepted_is (opening_of d v) opened.0;
        lent = opening_lent d v opened.0;
        long = eqb-true len (length_of (entered enter d)) second.0;
        left = eqb-true d.version leave left.0;
        whole = accepted_is (whole_of (shape_of d) (gauge_of d) v) whole.0;
        held = λ n h. each-accepted (held_tests d v) d.n 0 held.0 n (omega arith) (omega arith);
        kept = λ n h. eqb-true _ _ (passed (eqb (record_of (shape_of d) v n).spent (record_of (shape_of d) v n).held) A.Accepted (A.Discarded n) refl
            (ap accepts (each-accepted (kept_tests (shape_of d) v) d.n 0 kept.0 n (omega arith) (omega arith)))).0;
        counter_room = eqb-false d.counter counter_top room.0;
      }

  -- and this gives acceptance
  pub leaves-accepted : (len : ℕ) → Leaves leave enter d v len → move_answer leave enter d v len ≡ A.Accepted
  unfolding move_answer leave_tests parts_tests last_tests
  leaves-accepted len x =
      let held = all_accepted_lem (held_tests d v) d.n 0 (λ n a b. x.held n (omega arith)) in
      let kept = all_accepted_lem (kept_tests (shape_of d) v) d.n 0 (λ n a b. kept_is (shape_of d) v n refl (x.kept n (omega arith))) in
      goes_on (measure_of d v) _ (opening-measured d v (ap accepts x.opens))
      ∙ yes _ (eq-eqb len (length_of (entered enter d)) x.long)
      (goes_on (opening_of d v) _ (ap accepts x.opens)
      ∙ yes _ (eq-eqb d.version leave x.left)
      (goes_on (whole_of (shape_of d) (gauge_of d) v) _ (ap accepts x.whole)
      ∙ goes_on (ascending (held_tests d v) d.n 0) _ (ap accepts held)
      ∙ goes_on (ascending (kept_tests (shape_of d) v) d.n 0) _ (ap accepts kept)
      ∙ no _ (ne_eqb d.counter counter_top x.counter_room) refl))

  -- both halves of the promise
  module _ {a : Answer} (w : List ℕ) (e : move_answer leave enter d v (length w) ≡ a) where
    pub move_on : {x : Drive} {u : List ℕ} → accepts a ≡ true → x ≡ moved_drive enter d v → u ≡ moved_volume enter d v
        → (◌≡◌ {A = Done} (record { answer = a; drive = x }) (move_done leave enter d v (length w))) × (u ≡ move_second leave enter d v w)
    unfolding move_done move_second
    move_on t p q = (rw (e, t, p), q ∙ rw (e, t))

    pub move_off : accepts a ≡ false
        → (◌≡◌ {A = Done} (record { answer = a; drive = d }) (move_done leave enter d v (length w))) × (w ≡ move_second leave enter d v w)
    unfolding move_done move_second
    move_off t = (rw (e, t), rw (e, t))
