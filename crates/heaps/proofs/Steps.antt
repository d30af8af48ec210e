-- One turn of a loop that stores up, and of one that stores down, by what is left to store.
use mathlib.Core.Path.{◌≡◌, refl}
use Prim.Native.Nat.{ℕ, zero, suc, ◌-◌, ◌/◌, ◌<◌, ◌≤◌}
use native.Mathlib.Omega.{arith}
use Rattle.heaps.specs.Paths.{stored_up, stored_down}

module _ {X : Type 0} (put : ℕ → X → X) (x : X) where
  pub stored_up-on : (k i : ℕ) → 0 < k → stored_up put (k - 1) (i / 2) (put i x) ≡ stored_up put k i x
  unfolding stored_up
  stored_up-on zero i h = absurd (omega arith)
  stored_up-on (suc k) i h = let q : suc k - 1 ≡ k = omega arith in rw q

  pub stored_up_end : (k i : ℕ) → k ≤ 0 → x ≡ stored_up put k i x
  unfolding stored_up
  stored_up_end zero i h = refl
  stored_up_end (suc k) i h = absurd (omega arith)

  pub stored_down-on : (k : ℕ) → 0 < k → stored_down put (k - 1) (put k x) ≡ stored_down put k x
  unfolding stored_down
  stored_down-on zero h = absurd (omega arith)
  stored_down-on (suc k) h = let q : suc k - 1 ≡ k = omega arith in rw q

  pub stored_down_end : (k : ℕ) → k ≤ 0 → x ≡ stored_down put k x
  unfolding stored_down
  stored_down_end zero h = refl
  stored_down_end (suc k) h = absurd (omega arith)
