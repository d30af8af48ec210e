-- Laws of sums over nuggets.
use mathlib.Core.Path.{◌≡◌, refl}
use Prim.Native.Nat.{ℕ, zero, suc, ◌+◌, ◌<◌}
use native.Mathlib.Omega.{arith}
use borrow.Author.Tests.{le-ltb}
use Rattle.records.specs.declared.Record.{Record}
use Rattle.ledger.specs.Totals.{sum, retired_of, risen}

-- equal term by term
pub sum_same : (n : ℕ) (g h : ℕ → ℕ) → ((i : ℕ) → i < n → g i ≡ h i) → sum n g ≡ sum n h
unfolding sum
sum_same zero g h e = refl
sum_same (suc n) g h e = rw (sum_same n g h (λ i l. e i (omega arith)), e n (omega arith))

-- equal as pairs, term by term
pub sum_pairs : (n : ℕ) (a b c d : ℕ → ℕ) → ((i : ℕ) → i < n → a i + b i ≡ c i + d i) → sum n a + sum n b ≡ sum n c + sum n d
unfolding sum
sum_pairs zero a b c d e = refl
sum_pairs (suc n) a b c d e = omega (arith, sum_pairs n a b c d (λ i l. e i (omega arith)), e n (omega arith))

pub sum-none : (n : ℕ) (g : ℕ → ℕ) → ((i : ℕ) → i < n → g i ≡ 0) → sum n g ≡ 0
unfolding sum
sum-none zero g e = refl
sum-none (suc n) g e = rw (sum-none n g (λ i l. e i (omega arith)), e n (omega arith))

-- where no keycount rises nothing is retired
pub risen-none : (p n : ℕ) (before after : ℕ → Record) → ((i : ℕ) → i < n → (after i).keycount ≡ (before i).keycount) → risen p n before after ≡ 0
risen-none p n before after e =
    sum-none n (λ i. retired_of p (before i) (after i)) (λ i l. rw (le-ltb (before i).keycount (after i).keycount (omega (arith, e i l))))
