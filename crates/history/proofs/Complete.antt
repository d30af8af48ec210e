-- A change of the secret comes to its end: the sweeps one after another, then finish.
use mathlib.Core.Path.{◌≡◌, refl, sym, ap, ◌∙◌}
use mathlib.Core.Bool.{Bool, true, false, not}
use mathlib.Core.Logic.{◌⊎◌, inl, inr}
use mathlib.Core.List.{List, [], ◌∷◌, ◌++◌, append-nil}
use Prim.Native.Nat.{ℕ, zero, suc, ◌+◌, ◌^◌, ◌<◌, ◌≤◌}
use native.Mathlib.Omega.{arith}
use lib.Dec.{eqb}
use borrow.Author.Tests.{eq-eqb, eqb-true, eqb-false, ne_eqb, not-true, not-false}
use Rattle.base.specs.Pick.{pick, both}
use Rattle.base.specs.Lists.{same}
use Rattle.base.proofs.PickLaws.{told, both-on}
use Rattle.base.proofs.FoldLaws.{same_true}
use Rattle.answers.specs.Answer as A
use Rattle.answers.specs.Numbers.{accepts}
use Rattle.records.specs.Record.{record_of}
use Rattle.drive.specs.declared.Drive.{Drive}
use Rattle.drive.specs.Drive.{shape_of, is_changing}
use Rattle.changes.specs.Change.{advanced}
use Rattle.changes.specs.Rekey.{begun_drive}
use Rattle.changes.proofs.Exact.{begun_makes, finished_makes}
use Rattle.history.specs.World.{World, Call, begin, sweep, finish}
use Rattle.history.specs.Step.{answer_to, step}
use Rattle.history.specs.History.{run, history}
use Rattle.history.specs.Answers.{changing, has_moved, is_left, nuggets_left, all_accepted, sweeps_left, to_finish, Completes}
use Rattle.history.proofs.Counts.{many-none}
use Rattle.history.proofs.Sound.{Sound}
use Rattle.history.proofs.Steps.{step_sound, sound}
use Rattle.history.proofs.Runs.{run-append}
use Rattle.history.proofs.Moves.{begin-accepted, sweep-accepted, finish-accepted, begin-leaves, sweep-leaves, finish-leaves, swept_own, swept_other}

both_assoc : (a b c : Bool) → both a (both b c) ≡ both (both a b) c
both_assoc true b c = refl
both_assoc false b c = refl

-- calls accepted, then calls accepted
pub accepted-append : (w : World) (a b : List Call) → all_accepted w (a ++ b) ≡ both (all_accepted w a) (all_accepted (run w a) b)
unfolding all_accepted run
accepted-append w [] b = refl
accepted-append w (c ∷ a) b =
    ap (both (accepts (answer_to w c))) (accepted-append (step w c) a b)
    ∙ both_assoc (accepts (answer_to w c)) (all_accepted (step w c) a) (all_accepted (run (step w c) a) b)

-- so far: the nuggets below k have moved, and the others are as they were
record Swept (w : World) (k : ℕ) (u : World) : Type 0 where
  sounds : Sound u
  shape : u.drive.n ≡ w.drive.n
  begun : changing u ≡ true
  epoch : u.drive.epoch ≡ w.drive.epoch
  counter : u.drive.counter ≤ w.drive.counter + k
  done : (m : ℕ) → m < k → (record_of (shape_of u.drive) u.vol m).epoch ≡ w.drive.epoch
  rest : (m : ℕ) → k ≤ m → m < w.drive.n → (record_of (shape_of u.drive) u.vol m).epoch ≡ (record_of (shape_of w.drive) w.vol m).epoch

-- one more
one_swept : (w u : World) (k : ℕ) → k < w.drive.n → Swept w k u → (e : answer_to u (sweep k) ≡ A.Accepted) → Swept w (suc k) (step u (sweep k))
unfolding advanced
one_swept w u k h g e =
    let leaves = sweep-leaves u g.sounds k e in
    record {
      sounds = step_sound u (sweep k) g.sounds;
      shape = ap (λ (d : Drive). d.n) leaves ∙ g.shape;
      begun = ap (λ (d : Drive). is_changing d.state) leaves ∙ g.begun;
      epoch = ap (λ (d : Drive). d.epoch) leaves ∙ g.epoch;
      counter = let c = ap (λ (d : Drive). d.counter) leaves in omega (arith, c, g.counter);
      done = λ m l. go m l (told (eqb m k));
      rest = λ m l b. swept_other u g.sounds k e m (rw g.shape b) (λ z. omega (arith, z)) ∙ g.rest m (omega arith) b;
    }
  where
    go : (m : ℕ) → m < suc k → (eqb m k ≡ true) ⊎ (eqb m k ≡ false) → (record_of (shape_of (step u (sweep k)).drive) (step u (sweep k)).vol m).epoch ≡ w.drive.epoch
    go m l (inl q) = rw (eqb-true m k q) (swept_own u g.sounds k e ∙ g.epoch)
    go m l (inr q) =
        let far = eqb-false m k q in
        swept_other u g.sounds k e m (rw g.shape (omega (arith, l, h))) far ∙ g.done m (omega (arith, l, far))

-- a nugget that had moved before
none_swept : (w u : World) (k : ℕ) → has_moved w k ≡ true → k < w.drive.n → Swept w k u → Swept w (suc k) u
none_swept w u k moved h g =
    record {
      sounds = g.sounds;
      shape = g.shape;
      begun = g.begun;
      epoch = g.epoch;
      counter = omega (arith, g.counter);
      done = λ m l. go m l (told (eqb m k));
      rest = λ m l b. g.rest m (omega arith) b;
    }
  where
    go : (m : ℕ) → m < suc k → (eqb m k ≡ true) ⊎ (eqb m k ≡ false) → (record_of (shape_of u.drive) u.vol m).epoch ≡ w.drive.epoch
    go m l (inl q) = rw (eqb-true m k q) (g.rest k (omega arith) h ∙ eqb-true (record_of (shape_of w.drive) w.vol k).epoch w.drive.epoch moved)
    go m l (inr q) = g.done m (omega (arith, l, eqb-false m k q))

module _ (w : World) (x : Sound w) (begun : changing w ≡ true) (room : w.drive.counter + w.drive.n + 1 < 2 ^ 64) where
  swept : (k : ℕ) → k ≤ w.drive.n → Swept w k (run w (sweeps_left w k)) × (all_accepted w (sweeps_left w k) ≡ true)
  unfolding sweeps_left all_accepted run
  swept zero h = (
    record {
      sounds = x;
      shape = refl;
      begun = begun;
      epoch = refl;
      counter = omega arith;
      done = λ m l. absurd (omega arith);
      rest = λ m l b. refl;
    },
    refl,
  )
  swept (suc k) h = next (swept k (omega arith)) (is_left w k) refl
    where
      next : Swept w k (run w (sweeps_left w k)) × (all_accepted w (sweeps_left w k) ≡ true) → (b : Bool) → is_left w k ≡ b
          → Swept w (suc k) (run w (sweeps_left w k ++ pick b (sweep k ∷ []) [])) × (all_accepted w (sweeps_left w k ++ pick b (sweep k ∷ []) []) ≡ true)
      next (g, all) true e =
          let u = run w (sweeps_left w k) in
          let here : k < u.drive.n = rw g.shape h in
          let same_epoch = eqb-false (record_of (shape_of w.drive) w.vol k).epoch w.drive.epoch (not-true (has_moved w k) e) in
          let still : has_moved u k ≡ false = ne_eqb (record_of (shape_of u.drive) u.vol k).epoch u.drive.epoch (λ z. same_epoch (sym (g.rest k (omega arith) h) ∙ z ∙ g.epoch)) in
          let ok = sweep-accepted u g.sounds (omega (arith, g.counter, room, h)) k g.begun here still in (
            rw (run-append w (sweeps_left w k) (sweep k ∷ [])) (one_swept w u k h g ok),
            accepted-append w (sweeps_left w k) (sweep k ∷ []) ∙ both-on all (both-on (ap accepts ok) refl),
          )
      next (g, all) false e = rw (append-nil (sweeps_left w k)) (none_swept w (run w (sweeps_left w k)) k (not-false (has_moved w k) e) h g, all)

  -- the sweeps and the finish
  pub rest-accepted : (all_accepted w (to_finish w) ≡ true) × (changing (run w (to_finish w)) ≡ false)
  unfolding all_accepted run
  rest-accepted =
      let (g, all) = swept w.drive.n (omega arith) in
      let u = run w (sweeps_left w w.drive.n) in
      let none : nuggets_left u ≡ 0 = many-none u.drive.n (is_left u) (λ i l. ap not (eq-eqb (record_of (shape_of u.drive) u.vol i).epoch u.drive.epoch (g.done i (rw g.shape at l) ∙ sym g.epoch))) in
      let ok = finish-accepted u g.sounds (omega (arith, g.counter, room)) g.begun none in (
        accepted-append w (sweeps_left w w.drive.n) (finish ∷ []) ∙ both-on all (both-on (ap accepts ok) refl),
        ap changing (run-append w (sweeps_left w w.drive.n) (finish ∷ [])) ∙ ap (λ (d : Drive). is_changing d.state) (finish-leaves u g.sounds ok)
            ∙ (finished_makes u.drive).0,
      )

-- secrets that differ
another : (a b : List ℕ) → (a ≡ b → ⊥) → same a b ≡ false
another a b far = go (told (same a b))
  where
    go : (same a b ≡ true) ⊎ (same a b ≡ false) → same a b ≡ false
    go (inl e) = absurd (far (same_true a b e))
    go (inr e) = e

pub completes : Completes
unfolding all_accepted run begun_drive
completes start calls secret room fit = go (changing w) refl
  where
    w : World
    w = history start calls

    go : (b : Bool) → changing w ≡ b
        → (all_accepted w (pick b (to_finish w) (begin secret ∷ to_finish (step w (begin secret)))) ≡ true)
        × (changing (run w (pick b (to_finish w) (begin secret ∷ to_finish (step w (begin secret))))) ≡ false)
    go true e = rest-accepted w (sound start calls) e (omega (arith, room))
    go false e =
        let x = sound start calls in
        let (early, new) = fit e in
        let ok = begin-accepted w x (omega (arith, room)) secret e (another secret w.secret new) early in
        let leaves = begin-leaves w x secret ok in
        let u = step w (begin secret) in
        let n_is : u.drive.n ≡ w.drive.n = ap (λ (d : Drive). d.n) leaves in
        let counter_is : u.drive.counter ≡ w.drive.counter + 1 = ap (λ (d : Drive). d.counter) leaves ∙ (begun_makes w.drive secret).2 in
        let (all, steady) = rest-accepted u (step_sound w (begin secret) x) (ap (λ (d : Drive). is_changing d.state) leaves ∙ (begun_makes w.drive secret).0) (omega (arith, n_is, counter_is, room)) in
        (both-on (ap accepts ok) all, steady)
