-- The share: at most 100.00, and that exactly if nothing is left.
use mathlib.Core.Path.{◌≡◌, refl, ◌∙◌}
use mathlib.Core.Bool.{true, false}
use mathlib.Core.Logic.{◌⊎◌, inl, inr}
use Prim.Native.Nat.{ℕ, ◌-◌, ◌*◌, ◌/◌, ◌<◌, ◌≤◌, min}
use native.Mathlib.Nat.{div-lt_iff_lt-mul, mul-div_cancel_left, min-le_left, min-eq_right, div-zero}
use native.Mathlib.Omega.{arith}
use lib.Dec.{eqb, ltb}
use borrow.Author.Tests.{eq-eqb, ne_eqb, eqb-true, eqb-false, lt-ltb, le-ltb, ltb-true, ltb-false}
use Rattle.base.specs.Pick.{pick}
use Rattle.base.proofs.PickLaws.{yes, no, told}
use Rattle.reports.specs.declared.told.Counts.{Counts}
use Rattle.reports.specs.Counts.{exact_of, cap_of, share_of}
use Rattle.reports.proofs.CountLaws.{Counted}

-- a part of a whole, in hundredths of a percent
part-le : (a b : ℕ) → 1 ≤ b → a ≤ b → a * 10000 / b ≤ 10000
part-le a b h l = let z : a * 10000 / b < 10001 = (div-lt_iff_lt-mul h).1 (omega arith) in omega arith

-- no share is above 100.00, whatever is counted
pub share-le : (n : ℕ) (c : Counts) → share_of n c ≤ 10000
unfolding share_of
share-le n c = go (told (ltb c.moved n))
  where
    go : (ltb c.moved n ≡ true) ⊎ (ltb c.moved n ≡ false) → min (cap_of n c) (exact_of n c) ≤ 10000
    go (inl q) = rw q (omega (arith, min-le_left 9999 (exact_of n c)))
    go (inr q) = rw q (min-le_left 10000 (exact_of n c))

-- "while any nugget is left the figure is at most 99.99", whatever is counted
pub share-less : (n : ℕ) (c : Counts) → c.moved < n → share_of n c ≤ 9999
unfolding share_of
share-less n c l = rw (lt-ltb c.moved n l) (min-le_left 9999 (exact_of n c))

-- "with no flake present the nugget share stands"
pub exact_empty : (n : ℕ) (c : Counts) → c.flakes ≡ 0 → exact_of n c ≡ c.moved * 10000 / n
unfolding exact_of
exact_empty n c e = yes _ (eq-eqb c.flakes 0 e) refl

pub exact_none : (n : ℕ) (c : Counts) → c.flakes ≡ 0 → n ≡ 0 → exact_of n c ≡ 0
exact_none n c e z = exact_empty n c e ∙ rw z (div-zero (c.moved * 10000))

pub exact_flakes : (n : ℕ) (c : Counts) → (c.flakes ≡ 0 → ⊥) → exact_of n c ≡ c.done * 10000 / c.flakes
unfolding exact_of
exact_flakes n c ne = no _ (ne_eqb c.flakes 0 ne) refl

module _ (p n : ℕ) (c : Counts) (some : 1 ≤ n) (h : Counted p n c) where
  -- of counts of records the exact figure is at most 100.00: the bound of 10,000 never bites
  pub exact_le : exact_of n c ≤ 10000
  exact_le = go (told (eqb c.flakes 0))
    where
      go : (eqb c.flakes 0 ≡ true) ⊎ (eqb c.flakes 0 ≡ false) → exact_of n c ≤ 10000
      go (inl q) = rw (exact_empty n c (eqb-true c.flakes 0 q)) (part-le c.moved n some h.moved_few)
      go (inr q) =
          let ne = eqb-false c.flakes 0 q in
          rw (exact_flakes n c ne) (part-le c.done c.flakes (omega (arith, ne)) h.done_le)

  -- with nothing left the figure is 100.00 before any bound
  exact_full : c.moved ≡ n → exact_of n c ≡ 10000
  exact_full e = go (told (eqb c.flakes 0))
    where
      go : (eqb c.flakes 0 ≡ true) ⊎ (eqb c.flakes 0 ≡ false) → exact_of n c ≡ 10000
      go (inl q) = rw (exact_empty n c (eqb-true c.flakes 0 q), e) (mul-div_cancel_left 10000 some)
      go (inr q) =
          let ne = eqb-false c.flakes 0 q in
          rw (exact_flakes n c ne, h.done_all e) (mul-div_cancel_left 10000 (omega (arith, ne)))

  -- with nothing left the share is the exact figure, no bound
  pub share_exact : c.moved ≡ n → share_of n c ≡ exact_of n c
  unfolding share_of
  share_exact e = rw (le-ltb c.moved n (omega arith)) (min-eq_right exact_le)

  pub moved-full : c.moved ≡ n → share_of n c ≡ 10000
  moved-full e = share_exact e ∙ exact_full e

  pub full-moved : share_of n c ≡ 10000 → c.moved ≡ n
  full-moved e = go (told (ltb c.moved n))
    where
      go : (ltb c.moved n ≡ true) ⊎ (ltb c.moved n ≡ false) → c.moved ≡ n
      go (inl q) = absurd (omega (arith, share-less n c (ltb-true c.moved n q)))
      go (inr q) = omega (arith, h.moved_few, ltb-false c.moved n q)

  -- the bound by what is left
  pub cap_left : cap_of n c ≡ pick (eqb (n - c.moved) 0) 10000 9999
  cap_left = go (told (ltb c.moved n))
    where
      go : (ltb c.moved n ≡ true) ⊎ (ltb c.moved n ≡ false) → cap_of n c ≡ pick (eqb (n - c.moved) 0) 10000 9999
      go (inl q) =
          let some_left : n - c.moved ≡ 0 → ⊥ = λ e. omega (arith, ltb-true c.moved n q) in
          rw (q, ne_eqb (n - c.moved) 0 some_left)
      go (inr q) =
          let none_left_lem : n - c.moved ≡ 0 = omega (arith, ltb-false c.moved n q) in
          rw (q, eq-eqb (n - c.moved) 0 none_left_lem)

  -- "with no flake present the nugget share stands"
  pub share-empty : c.flakes ≡ 0 → share_of n c ≡ c.moved * 10000 / n
  unfolding share_of
  share-empty z = go (told (ltb c.moved n))
    where
      go : (ltb c.moved n ≡ true) ⊎ (ltb c.moved n ≡ false) → min (cap_of n c) (exact_of n c) ≡ c.moved * 10000 / n
      go (inl q) =
          let less : c.moved * 10000 / n < 10000 = (div-lt_iff_lt-mul some).1 (omega (arith, ltb-true c.moved n q)) in
          rw (q, exact_empty n c z) (min-eq_right (omega arith))
      go (inr q) = rw (q, exact_empty n c z) (min-eq_right (part-le c.moved n some h.moved_few))
