-- How many nodes a path has; none of the nodes from a node up is below it, and with a node its parent is among them.
use mathlib.Core.Path.{◌≡◌, refl}
use mathlib.Core.Bool.{true, false}
use mathlib.Core.Logic.{◌⊎◌, inl, inr}
use Prim.Native.Nat.{ℕ, zero, suc, ◌+◌, ◌-◌, ◌/◌, ◌^◌, ◌<◌, ◌≤◌}
use native.Mathlib.Nat.{pow-suc}
use native.Mathlib.Omega.{arith}
use lib.Pow.{pow_pos}
use lib.Dec.{eqb}
use borrow.Author.Tests.{eqb-true, eq-eqb}
use Rattle.base.proofs.PickLaws.{told, clash, either_left, either_right, either-told}
use Rattle.heaps.specs.Paths.{Rises, upward, on_path}

-- a path of some nodes has a first one, and then the path of its parent
pub rises-some : (k i : ℕ) → Rises k i → 0 < k → 1 ≤ i
rises-some zero i r h = absurd (omega arith)
rises-some (suc k) i r h = omega (arith, rw (pow-suc 2 k) at r.reaches, pow_pos k)

pub rises-half : (k i : ℕ) → Rises (suc k) i → Rises k (i / 2)
rises-half k i r =
    record { reaches = omega (arith, rw (pow-suc 2 k) at r.reaches); ends = omega (arith, rw (pow-suc 2 k) at r.ends) }

pub rises_next : (k i : ℕ) → Rises k i → 0 < k → Rises (k - 1) (i / 2)
rises_next zero i r h = absurd (omega arith)
rises_next (suc k) i r h = let e : suc k - 1 ≡ k = omega arith in rw e (rises-half k i r)

-- a leaf
pub rises-leaf : (h n : ℕ) → n < 2 ^ h → Rises (suc h) (2 ^ h + n)
rises-leaf h n l = let e = pow-suc 2 h in record { reaches = omega (arith, e); ends = omega (arith, e) }

pub upward-le : (k j i : ℕ) → upward k j i ≡ true → i ≤ j
unfolding upward
upward-le zero j i e = absurd (clash e refl)
upward-le (suc k) j i e = go (either-told (eqb j i) (upward k (j / 2) i) e) (λ q. upward-le k (j / 2) i q)
  where
    go : (eqb j i ≡ true) ⊎ (upward k (j / 2) i ≡ true) → (upward k (j / 2) i ≡ true → i ≤ j / 2) → i ≤ j
    go (inl q) again = omega (arith, eqb-true j i q)
    go (inr q) again = omega (arith, again q)

pub upward-below : (k j i : ℕ) → j < i → upward k j i ≡ false
upward-below k j i h = go (told (upward k j i))
  where
    go : (upward k j i ≡ true) ⊎ (upward k j i ≡ false) → upward k j i ≡ false
    go (inl e) = absurd (omega (arith, upward-le k j i e))
    go (inr e) = e

pub upward_self : (k j : ℕ) → 0 < k → upward k j j ≡ true
unfolding upward
upward_self zero j h = absurd (omega arith)
upward_self (suc k) j h = either_left _ (eq-eqb j j refl)

pub upward_parent : (k j c : ℕ) → Rises k j → 1 < c → upward k j c ≡ true → upward k j (c / 2) ≡ true
unfolding upward
upward_parent zero j c r h e = absurd (clash e refl)
upward_parent (suc k) j c r h e =
    either_right (eqb j (c / 2)) (go (either-told (eqb j c) (upward k (j / 2) c) e) (λ q. upward_parent k (j / 2) c (rises-half k j r) h q))
  where
    some : (m : ℕ) → j < 2 ^ suc m → 1 < j → 0 < m
    some zero l p = absurd (omega arith)
    some (suc m) l p = omega arith

    go : (eqb j c ≡ true) ⊎ (upward k (j / 2) c ≡ true) → (upward k (j / 2) c ≡ true → upward k (j / 2) (c / 2) ≡ true) → upward k (j / 2) (c / 2) ≡ true
    go (inl q) again = let w : j ≡ c = eqb-true j c q in rw (← w) (upward_self k (j / 2) (some k r.ends (rw w h)))
    go (inr q) again = again q

-- the same for the path of a leaf
module _ (h n : ℕ) where
  pub path-leaf : on_path h n (2 ^ h + n) ≡ true
  unfolding on_path
  path-leaf = upward_self (suc h) (2 ^ h + n) (omega arith)

  -- a node that isn't on the path stands over no node that is
  pub path_off : (i c : ℕ) → n < 2 ^ h → 1 < c → c / 2 ≡ i → on_path h n i ≡ false → on_path h n c ≡ false
  unfolding on_path
  path_off i c l p e off = go (told (upward (suc h) (2 ^ h + n) c))
    where
      go : (upward (suc h) (2 ^ h + n) c ≡ true) ⊎ (upward (suc h) (2 ^ h + n) c ≡ false) → upward (suc h) (2 ^ h + n) c ≡ false
      go (inl on) = absurd (clash (rw e at (upward_parent (suc h) (2 ^ h + n) c (rises-leaf h n l) p on)) off)
      go (inr off') = off'
