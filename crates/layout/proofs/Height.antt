-- L is the smallest power of two not below N, and is found by leading zeros.
use mathlib.Core.Path.{◌≡◌}
use mathlib.Core.Bool.{true, false}
use mathlib.Core.Logic.{◌⊎◌, inl, inr}
use Prim.Native.Nat.{ℕ, zero, suc, ◌+◌, ◌-◌, ◌*◌, ◌^◌, ◌≤◌, ◌<◌}
use native.Mathlib.Nat.{pow-suc, lt_of_not-le, add-suc, suc-add}
use native.Mathlib.Omega.{arith}
use lib.Pow.{pow_mono, pow_pos}
use lib.Dec.{leb}
use lib.Count.{count_leading_zeros, leading_length}
use borrow.Author.Tests.{leb-true, leb-false}
use Rattle.base.specs.Pick.{pick}
use Rattle.base.proofs.PickLaws.{told}
use Rattle.layout.specs.Shape.{height_from, height_of, leaves}

-- no more than any m whose power is not below n
least-from : (k m i n : ℕ) → m ≤ i → i ≤ m + k → n ≤ 2 ^ i → height_from k m n ≤ i
unfolding height_from
least-from zero m i n a b h = a
least-from (suc k) m i n a b h = go (told (leb n (2 ^ m))) (λ l. least-from k (suc m) i n l (omega arith) h)
  where
    go : (leb n (2 ^ m) ≡ true) ⊎ (leb n (2 ^ m) ≡ false) → (suc m ≤ i → height_from k (suc m) n ≤ i)
        → pick (leb n (2 ^ m)) m (height_from k (suc m) n) ≤ i
    go (inl e) again = rw e a
    go (inr e) again = rw e (again (past (leb-false n (2 ^ m) e)))
      where
        past : 2 ^ m < n → suc m ≤ i
        past q = lt_of_not-le (λ r. let z : 2 ^ i ≤ 2 ^ m = pow_mono r in absurd (omega arith))

-- and its own power is not below n
enough_from : (k m n : ℕ) → n ≤ 2 ^ (m + k) → n ≤ 2 ^ height_from k m n
unfolding height_from
enough_from zero m n h = let e : m + zero ≡ m = omega arith in rw e at h
enough_from (suc k) m n h =
    go (told (leb n (2 ^ m))) (enough_from k (suc m) n (rw (suc-add m k) (rw (add-suc m k) at h)))
  where
    go : (leb n (2 ^ m) ≡ true) ⊎ (leb n (2 ^ m) ≡ false) → n ≤ 2 ^ height_from k (suc m) n → n ≤ 2 ^ pick (leb n (2 ^ m)) m (height_from k (suc m) n)
    go (inl e) again = rw e (leb-true n (2 ^ m) e)
    go (inr e) again = rw e again

pub height-least : (i n : ℕ) → i ≤ 32 → n ≤ 2 ^ i → height_of n ≤ i
unfolding height_of
height-least i n a h = least-from 32 0 i n (omega arith) (omega arith) h

pub height_enough : (n : ℕ) → n ≤ 2 ^ 32 → n ≤ 2 ^ height_of n
unfolding height_of
height_enough n h = enough_from 32 0 n h

-- "L is the smallest power of two not below N."
pub leaves_enough : (n : ℕ) → n ≤ 2 ^ 32 → n ≤ leaves n
leaves_enough n h = height_enough n h

pub leaves-least : (i n : ℕ) → i ≤ 32 → n ≤ 2 ^ i → leaves n ≤ 2 ^ i
leaves-least i n a h = pow_mono (height-least i n a h)

pub leaves-some : (n : ℕ) → 1 ≤ leaves n
leaves-some n = pow_pos (height_of n)

-- leading zeros of N - 1 give it
pub height-zeros : (n : ℕ) → 0 < n → n < 2 ^ 32 → count_leading_zeros 32 (n - 1) + height_of n ≡ 32
height-zeros n p h =
    let (m, e, below, above) = leading_length 32 (n - 1) (omega arith) in
    let most : height_of n ≤ m = height-least m n (omega arith) (omega arith) in
    let same : height_of n ≡ m = go m above most (told (leb m (height_of n))) in
    rw same e
  where
    go : (m : ℕ) → 2 ^ m ≤ 2 * (n - 1) + 1 → height_of n ≤ m → (leb m (height_of n) ≡ true) ⊎ (leb m (height_of n) ≡ false) → height_of n ≡ m
    go m above most (inl e) = omega (arith, leb-true m (height_of n) e)
    go m above most (inr e) =
        let up : suc (height_of n) ≤ m = leb-false m (height_of n) e in
        let z : 2 ^ suc (height_of n) ≤ 2 ^ m = pow_mono up in
        absurd (omega (arith, rw (pow-suc 2 (height_of n)) at z, height_enough n (omega arith)))
