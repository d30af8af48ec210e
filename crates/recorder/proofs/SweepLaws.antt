-- A list of sweeps, as `sweep_all` makes them and as a history has them; and small laws of lists.
use mathlib.Core.Path.{◌≡◌, refl, sym, ap, ◌∙◌}
use mathlib.Core.Bool.{Bool, true, false}
use mathlib.Core.Logic.{◌⊎◌, inl, inr}
use mathlib.Core.List.{List, [], ◌∷◌, ◌++◌}
use Prim.Native.Nat.{ℕ, zero, suc, ◌+◌, ◌<◌, ◌≤◌}
use native.Mathlib.Omega.{arith}
use lib.ListN.{length, get_or}
use lib.Seq.{ext_get_or}
use Rattle.base.specs.Pick.{pick}
use Rattle.base.specs.Lists.{tab, same}
use Rattle.base.proofs.PickLaws.{told, both_left, both_right}
use Rattle.base.proofs.FoldLaws.{same_true}
use Rattle.base.proofs.TabLaws.{length-tab, get_or-tab}
use Rattle.answers.specs.Answer as A
use Rattle.answers.specs.Numbers.{accepts}
use Rattle.answers.proofs.StageLaws.{accepted_is}
use Rattle.history.specs.World.{World, Call, sweep}
use Rattle.history.specs.Step.{answer_to, world_after, step}
use Rattle.history.specs.History.{run}
use Rattle.history.specs.Answers.{is_left, all_accepted, sweeps_left}
use Rattle.history.proofs.Runs.{run-append}
use Rattle.recorder.specs.Session.{Holding, holding, after_sweep, swept_from}

-- what a world holds
abbrev pub holds : World → Holding
holds w = holding w.drive w.vol

-- the sweeps of the nuggets below k
unfoldable pub sweeps_to : ℕ → List Call
sweeps_to zero = []
sweeps_to (suc k) = sweeps_to k ++ (sweep k ∷ [])

swept_last : (k i : ℕ) (h : Holding) → swept_from i (suc k) h ≡ after_sweep (i + k) (swept_from i k h)
unfolding swept_from
swept_last zero i h = let e : i + 0 ≡ i = omega arith in rw e refl
swept_last (suc k) i h = let e : i + 1 + k ≡ i + suc k = omega arith in swept_last k (i + 1) (after_sweep i h) ∙ ap (λ (m : ℕ). after_sweep m (swept_from (i + 1) k (after_sweep i h))) e

-- They hold what `sweep_all` leaves, and keep what was written and the secret.
pub run_swept : (w : World) (k : ℕ) → holds (run w (sweeps_to k)) ≡ swept_from 0 k (holds w)
unfolding sweeps_to run step world_after swept_from
run_swept w zero = refl
run_swept w (suc k) =
    let e : 0 + k ≡ k = omega arith in
    ap holds (run-append w (sweeps_to k) (sweep k ∷ [])) ∙ ap (after_sweep k) (run_swept w k) ∙ ap (λ (m : ℕ). after_sweep m (swept_from 0 k (holds w))) (sym e) ∙ sym (swept_last k 0 (holds w))

abbrev pub Undisturbed : Type 0
Undisturbed = (ℕ → ℕ) × List ℕ

abbrev pub keeps : World → Undisturbed
keeps w = (w.contents, w.secret)

pub run_keeps : (w : World) (k : ℕ) → keeps (run w (sweeps_to k)) ≡ keeps w
unfolding sweeps_to run step world_after
run_keeps w zero = refl
run_keeps w (suc k) = ap keeps (run-append w (sweeps_to k) (sweep k ∷ [])) ∙ run_keeps w k

-- where all nuggets are left, all are after_sweep
pub sweeps_are : (w : World) (n : ℕ) → ((k : ℕ) → k < n → is_left w k ≡ true) → (k : ℕ) → k ≤ n → sweeps_left w k ≡ sweeps_to k
unfolding sweeps_left sweeps_to
sweeps_are w n all zero h = refl
sweeps_are w n all (suc k) h = ap (λ (l : List Call). l ++ pick (is_left w k) (sweep k ∷ []) []) (sweeps_are w n all k (omega arith)) ∙ ap (λ (b : Bool). sweeps_to k ++ pick b (sweep k ∷ []) []) (all k h)

pub last-accepted : (w : World) (calls : List Call) (c : Call) → all_accepted w (calls ++ (c ∷ [])) ≡ true → answer_to (run w calls) c ≡ A.Accepted
unfolding all_accepted run
last-accepted w [] c e = accepted_is (answer_to w c) (both_left (accepts (answer_to w c)) true e)
last-accepted w (d ∷ calls) c e = last-accepted (step w d) calls c (both_right (accepts (answer_to w d)) (all_accepted (step w d) (calls ++ (c ∷ []))) e)

pub pick-le : (b : Bool) → pick b 0 1 ≤ 1
pick-le true = omega arith
pick-le false = omega arith

pub unlike : (a b : List ℕ) → (a ≡ b → ⊥) → same a b ≡ false
unlike a b far = go (told (same a b))
  where
    go : (same a b ≡ true) ⊎ (same a b ≡ false) → same a b ≡ false
    go (inl e) = absurd (far (same_true a b e))
    go (inr e) = e

pub tab_text : (text : List ℕ) → tab (length text) (λ i. get_or text i 0) ≡ text
tab_text text = ext_get_or 0 (tab (length text) (λ i. get_or text i 0)) text (length-tab (length text) (λ i. get_or text i 0)) (λ i h. get_or-tab (length text) (λ j. get_or text j 0) i 0 (rw (length-tab (length text) (λ j. get_or text j 0)) at h))
