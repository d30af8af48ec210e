-- Counts of the numbers that pass a test: none, all, and two tests that differ at one place.
use mathlib.Core.Path.{◌≡◌, refl, sym}
use mathlib.Core.Bool.{Bool, true, false}
use mathlib.Core.Logic.{◌⊎◌, inl, inr}
use Prim.Native.Nat.{ℕ, zero, suc, ◌+◌, ◌<◌}
use native.Mathlib.Omega.{arith}
use lib.Dec.{eqb}
use borrow.Author.Tests.{eqb-true, eqb-false}
use Rattle.base.specs.Pick.{pick}
use Rattle.base.proofs.PickLaws.{told}
use Rattle.records.specs.Journal.{many}
use Rattle.records.proofs.CountLaws.{many-le}

-- none and all pass
pub many-none : (k : ℕ) (g : ℕ → Bool) → ((i : ℕ) → i < k → g i ≡ false) → many k g ≡ 0
unfolding many
many-none zero g e = refl
many-none (suc k) g e = rw (e k (omega arith), many-none k g (λ i l. e i (omega arith))) refl

pub many-full : (k : ℕ) (g : ℕ → Bool) → ((i : ℕ) → i < k → g i ≡ true) → many k g ≡ k
unfolding many
many-full zero g e = refl
many-full (suc k) g e = rw (e k (omega arith), many-full k g (λ i l. e i (omega arith))) (omega arith)

-- as many as there are: each
pub many-all : (k : ℕ) (g : ℕ → Bool) → many k g ≡ k → (i : ℕ) → i < k → g i ≡ true
unfolding many
many-all zero g e i h = absurd (omega arith)
many-all (suc k) g e i h = go (g k) refl (told (eqb i k)) (λ q l. many-all k g q i l)
  where
    go : (b : Bool) → g k ≡ b → (eqb i k ≡ true) ⊎ (eqb i k ≡ false) → (many k g ≡ k → i < k → g i ≡ true) → g i ≡ true
    go true q (inl x) again = rw (eqb-true i k x) q
    go true q (inr x) again = let z : many k g + 1 ≡ suc k = rw q at e in again (omega arith) (omega (arith, eqb-false i k x))
    go false q x again = let z : many k g + 0 ≡ suc k = rw q at e in absurd (omega (arith, many-le k g))

-- counts of tests that agree, and of tests that differ at one place
pub many-same : (k : ℕ) (g h : ℕ → Bool) → ((i : ℕ) → i < k → h i ≡ g i) → many k h ≡ many k g
unfolding many
many-same zero g h e = refl
many-same (suc k) g h e = rw (e k (omega arith), many-same k g h (λ i l. e i (omega arith))) refl

pub many-one : (k : ℕ) (g h : ℕ → Bool) (n : ℕ) → n < k → g n ≡ false → h n ≡ true → ((i : ℕ) → i < k → (i ≡ n → ⊥) → h i ≡ g i) → many k h ≡ many k g + 1
unfolding many
many-one zero g h n l off on e = absurd (omega arith)
many-one (suc k) g h n l off on e = go (told (eqb n k)) (λ far. many-one k g h n (omega (arith, far)) off on (λ i a b. e i (omega arith) b))
  where
    go : (eqb n k ≡ true) ⊎ (eqb n k ≡ false) → ((n ≡ k → ⊥) → many k h ≡ many k g + 1) → many k h + pick (h k) 1 0 ≡ many k g + pick (g k) 1 0 + 1
    go (inl q) again =
        let here = eqb-true n k q in
        let was : g k ≡ false = rw here at off in
        let is : h k ≡ true = rw here at on in
        rw (was, is) (omega (arith, many-same k g h (λ i a. e i (omega arith) (λ z. omega (arith, z, here)))))
    go (inr q) again =
        let far = eqb-false n k q in
        rw (e k (omega arith) (λ z. far (sym z))) (omega (arith, again far))
