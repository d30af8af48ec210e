-- Laws of counts: of a bounded set, of two sets that share none, and as the count of a number's ones.
use mathlib.Core.Path.{◌≡◌, refl, ap, sym, ◌∙◌}
use mathlib.Core.Bool.{Bool, true, false}
use Prim.Native.Nat.{ℕ, zero, suc, ◌+◌, ◌*◌, ◌/◌, ◌%◌, ◌^◌, ◌<◌, ◌≤◌}
use native.Mathlib.Nat.{mod-eq_of_lt, mod-lt, mod-one, add_comm}
use native.Mathlib.Omega.{arith}
use lib.Pow.{pow_pos, mod-pow-add}
use lib.Count.{ones, ones_in, ones_cat}
use lib.Dec.{eqb}
use Rattle.base.specs.Pick.{pick, both, either}
use Rattle.records.specs.Journal.{bit, union, share_none, many, flake_count}
use Rattle.records.proofs.BitLaws.{bit-union, share_none_bits, bit-empty}

pub many-le : (n : ℕ) (g : ℕ → Bool) → many n g ≤ n
unfolding many
many-le zero g = omega arith
many-le (suc n) g = go (g n) (many-le n g)
  where
    go : (b : Bool) → many n g ≤ n → many n g + pick b 1 0 ≤ suc n
    go true h = omega arith
    go false h = omega arith

-- two tests that never both hold
pub many-either : (n : ℕ) (g h k : ℕ → Bool) → ((f : ℕ) → k f ≡ either (g f) (h f)) → ((f : ℕ) → both (g f) (h f) ≡ false)
    → many n k ≡ many n g + many n h
unfolding many
many-either zero g h k e d = refl
many-either (suc n) g h k e d =
    let q : pick (k n) 1 0 ≡ pick (g n) 1 0 + pick (h n) 1 0 = rw (e n) (go (g n) (h n) (d n)) in
    omega (arith, many-either n g h k e d)
  where
    go : (a b : Bool) → both a b ≡ false → pick (either a b) 1 0 ≡ pick a 1 0 + pick b 1 0
    go true true z = cc
    go true false z = refl
    go false b z = omega arith

pub present-le : (p j : ℕ) → flake_count p j ≤ p
present-le p j = many-le p (bit j)

-- sets that share none: their counts add
pub present-union : (p j t : ℕ) → share_none j t ≡ true → flake_count p (union j t) ≡ flake_count p j + flake_count p t
present-union p j t e = many-either p (bit j) (bit t) (bit (union j t)) (bit-union j t) (share_none_bits j t e)

ones_digit : (x : ℕ) → x < 2 → ones x ≡ pick (eqb x 1) 1 0
unfolding ones ones_in
ones_digit zero h = refl
ones_digit (suc zero) h = refl
ones_digit (suc (suc x)) h = absurd (omega arith)

ones_low : (p j : ℕ) → flake_count p j ≡ ones (j % 2 ^ p)
unfolding many bit
ones_low zero j = rw (mod-one j) (sym (ones_digit 0 (omega arith)))
ones_low (suc p) j =
    let digit : j / 2 ^ p % 2 < 2 = omega arith in
    let e : 1 + p ≡ suc p = omega arith in
    let d : j % 2 ^ suc p ≡ (j / 2 ^ p % 2) * 2 ^ p + j % 2 ^ p = rw e at (mod-pow-add j 1 p) in
    rw (d, ones_cat p (j / 2 ^ p % 2) (j % 2 ^ p) (mod-lt j (pow_pos p)), ones_digit (j / 2 ^ p % 2) digit, ones_low p j)
    (add_comm (ones (j % 2 ^ p)) (pick (eqb (j / 2 ^ p % 2) 1) 1 0))

-- "counts of ones of each journal give flakes present"
pub present_ones : (p j : ℕ) → j < 2 ^ p → flake_count p j ≡ ones j
present_ones p j h = ones_low p j ∙ ap ones (mod-eq_of_lt h)

-- more places than P add nothing to a set below 2 ^ P
pub present_more : (p q j : ℕ) → j < 2 ^ p → j < 2 ^ q → flake_count p j ≡ flake_count q j
present_more p q j h l = present_ones p j h ∙ sym (present_ones q j l)

-- an empty journal has no flake
pub present-none : (p : ℕ) → flake_count p 0 ≡ 0
unfolding many
present-none zero = refl
present-none (suc p) = rw (bit-empty p, present-none p)
