-- Laws of membership: of a union, of a set without another, of sets that share none, of a set that lies in another, of a set bounded by P, and of equal sets.
use mathlib.Core.Path.{◌≡◌, refl, sym, ap, ◌∙◌}
use mathlib.Core.Bool.{Bool, true, false, not}
use Prim.Native.Nat.{ℕ, zero, suc, ◌/◌, ◌%◌, ◌^◌, ◌<◌, ◌≤◌}
use native.Mathlib.Nat.{pow-succ', div-div-eq-div-mul, div-eq_of_lt, div-one, zero-div, lt_of_lt_of_le}
use native.Mathlib.Omega.{arith}
use lib.Arith.{bin_ind}
use lib.Pow.{pow_mono}
use lib.Bits.{bit_and, bit_or, bit_xor, or_shr, or_mod, and_shr, and_mod, xor_shr, xor_mod, xor_lt, and_self, and_zero_r, xor_zero_r, and_le_l, and_le_r}
use lib.Dec.{eqb, leb}
use mathlib.Core.Logic.{◌⊎◌, inl, inr}
use borrow.Author.Tests.{eqb-true, eq-eqb, leb-true, leb-false}
use Rattle.base.specs.Pick.{both, either}
use Rattle.base.proofs.PickLaws.{told, clash, both_right}
use Rattle.records.specs.Journal.{bit, union, without, share_none, lies_in}

or_digit : (x y : ℕ) → x < 2 → y < 2 → eqb (bit_or x y) 1 ≡ either (eqb x 1) (eqb y 1)
or_digit zero y a b = refl
or_digit (suc zero) zero a b = refl
or_digit (suc zero) (suc zero) a b = refl
or_digit (suc zero) (suc (suc y)) a b = absurd (omega arith)
or_digit (suc (suc x)) y a b = absurd (omega arith)

and_digit : (x y : ℕ) → x < 2 → y < 2 → eqb (bit_and x y) 1 ≡ both (eqb x 1) (eqb y 1)
and_digit zero y a b = refl
and_digit (suc zero) zero a b = refl
and_digit (suc zero) (suc zero) a b = refl
and_digit (suc zero) (suc (suc y)) a b = absurd (omega arith)
and_digit (suc (suc x)) y a b = absurd (omega arith)

without-digit : (x y : ℕ) → x < 2 → y < 2 → eqb (bit_xor x (bit_and x y)) 1 ≡ both (eqb x 1) (not (eqb y 1))
without-digit zero y a b = refl
without-digit (suc zero) zero a b = refl
without-digit (suc zero) (suc zero) a b = refl
without-digit (suc zero) (suc (suc y)) a b = absurd (omega arith)
without-digit (suc (suc x)) y a b = absurd (omega arith)

same-digit : (x y : ℕ) → x < 2 → y < 2 → eqb x 1 ≡ eqb y 1 → x ≡ y
same-digit zero zero a b e = refl
same-digit zero (suc zero) a b e = cc
same-digit (suc zero) zero a b e = cc
same-digit (suc zero) (suc zero) a b e = refl
same-digit zero (suc (suc y)) a b e = absurd (omega arith)
same-digit (suc zero) (suc (suc y)) a b e = absurd (omega arith)
same-digit (suc (suc x)) y a b e = absurd (omega arith)

-- a flake is in J with T if it is in J or in T
pub bit-union : (j t f : ℕ) → bit (union j t) f ≡ either (bit j f) (bit t f)
unfolding bit
bit-union j t f =
    rw (or_shr j t f, or_mod (j / 2 ^ f) (t / 2 ^ f) 1)
    (or_digit (j / 2 ^ f % 2) (t / 2 ^ f % 2) (omega arith) (omega arith))

pub bit_and_lem : (j t f : ℕ) → bit (bit_and j t) f ≡ both (bit j f) (bit t f)
unfolding bit
bit_and_lem j t f =
    rw (and_shr j t f, and_mod (j / 2 ^ f) (t / 2 ^ f) 1)
    (and_digit (j / 2 ^ f % 2) (t / 2 ^ f % 2) (omega arith) (omega arith))

-- a flake is in J without M if it is in J and not in M
pub bit-without : (j m f : ℕ) → bit (without j m) f ≡ both (bit j f) (not (bit m f))
unfolding bit without
bit-without j m f =
    rw (xor_shr j (bit_and j m) f, xor_mod (j / 2 ^ f) (bit_and j m / 2 ^ f) 1, and_shr j m f, and_mod (j / 2 ^ f) (m / 2 ^ f) 1)
    (without-digit (j / 2 ^ f % 2) (m / 2 ^ f % 2) (omega arith) (omega arith))

pub without-none : (j : ℕ) → without j 0 ≡ j
unfolding without
without-none j = rw (and_zero_r j) (xor_zero_r j)

pub without-lt : (p j m : ℕ) → j < 2 ^ p → without j m < 2 ^ p
unfolding without
without-lt p j m h = xor_lt p j (bit_and j m) h (omega (arith, and_le_l j m, h))

pub bit-empty : (f : ℕ) → bit 0 f ≡ false
unfolding bit
bit-empty f = rw (zero-div (2 ^ f))

-- a set below 2 ^ p has no flake at or above p
pub none_above : (p j f : ℕ) → j < 2 ^ p → p ≤ f → bit j f ≡ false
unfolding bit
none_above p j f h l = rw (div-eq_of_lt (lt_of_lt_of_le h (pow_mono l)))

pub bit-half : (j f : ℕ) → bit j (suc f) ≡ bit (j / 2) f
unfolding bit
bit-half j f = rw (pow-succ' 2 f, div-div-eq-div-mul j 2 (2 ^ f))

same_odd : (a b : ℕ) → bit a 0 ≡ bit b 0 → a % 2 ≡ b % 2
unfolding bit
same_odd a b e = same-digit (a % 2) (b % 2) (omega arith) (omega arith) (rw (div-one a, div-one b) at e)

-- a set with no flake is empty
pub no_bits : (j : ℕ) → ((f : ℕ) → bit j f ≡ false) → j ≡ 0
no_bits =
    bin_ind (λ (n : ℕ). ((f : ℕ) → bit n f ≡ false) → n ≡ 0) (λ h. refl)
    (λ n ih h.
    let high : n / 2 ≡ 0 = ih (λ f. sym (bit-half n f) ∙ h (suc f)) in
    let low : n % 2 ≡ 0 % 2 = same_odd n 0 (h 0 ∙ sym (bit-empty 0)) in
    omega arith)

-- sets with the same flakes are equal
pub same_bits : (a b : ℕ) → ((f : ℕ) → bit a f ≡ bit b f) → a ≡ b
same_bits =
    bin_ind (λ (n : ℕ). (b : ℕ) → ((f : ℕ) → bit n f ≡ bit b f) → n ≡ b) (λ b h. sym (no_bits b (λ f. sym (h f) ∙ bit-empty f)))
    (λ n ih b h.
    let high : n / 2 ≡ b / 2 = ih (b / 2) (λ f. sym (bit-half n f) ∙ h (suc f) ∙ bit-half b f) in
    let low : n % 2 ≡ b % 2 = same_odd n b (h 0) in
    omega arith)

-- "J and T share none": no flake is in both
pub share_none_bits : (j t : ℕ) → share_none j t ≡ true → (f : ℕ) → both (bit j f) (bit t f) ≡ false
unfolding share_none
share_none_bits j t e f = sym (bit_and_lem j t f) ∙ rw (eqb-true (bit_and j t) 0 e) (bit-empty f)

-- a flake in a set below 2 ^ p is below p
pub bit_below : (p j f : ℕ) → j < 2 ^ p → bit j f ≡ true → f < p
bit_below p j f h e = go (told (leb p f))
  where
    go : (leb p f ≡ true) ⊎ (leb p f ≡ false) → f < p
    go (inl d) = absurd (clash e (none_above p j f h (leb-true p f d)))
    go (inr d) = leb-false p f d

-- a set that lies in another: its flakes are the other's, and it is no greater
pub lies_bits : (j t : ℕ) → lies_in j t ≡ true → (f : ℕ) → bit j f ≡ true → bit t f ≡ true
unfolding lies_in
lies_bits j t e f on = both_right (bit j f) (bit t f) (sym (bit_and_lem j t f) ∙ ap (λ (k : ℕ). bit k f) (eqb-true (bit_and j t) j e) ∙ on)

pub lies_lt : (p j t : ℕ) → lies_in j t ≡ true → t < 2 ^ p → j < 2 ^ p
unfolding lies_in
lies_lt p j t e h = omega (arith, eqb-true (bit_and j t) j e, and_le_r j t, h)

pub lies_self : (j : ℕ) → lies_in j j ≡ true
unfolding lies_in
lies_self j = eq-eqb (bit_and j j) j (and_self j)

-- and with T in both it still does
pub lies_union : (j k t : ℕ) → lies_in j k ≡ true → lies_in (union j t) (union k t) ≡ true
unfolding lies_in
lies_union j k t e = eq-eqb (bit_and (union j t) (union k t)) (union j t) (same_bits (bit_and (union j t) (union k t)) (union j t) same)
  where
    go : (a b d : Bool) → (a ≡ true → b ≡ true) → both (either a d) (either b d) ≡ either a d
    go true true d h = refl
    go true false d h = absurd (clash (h refl) refl)
    go false true true h = refl
    go false false true h = refl
    go false b false h = refl

    same : (f : ℕ) → bit (bit_and (union j t) (union k t)) f ≡ bit (union j t) f
    same f = bit_and_lem (union j t) (union k t) f ∙ rw (bit-union j t f, bit-union k t f) (go (bit j f) (bit k f) (bit t f) (lies_bits j k e f))

-- and without some of its flakes too
pub lies_without : (j k m : ℕ) → lies_in j k ≡ true → lies_in (without j m) k ≡ true
unfolding lies_in
lies_without j k m e = eq-eqb (bit_and (without j m) k) (without j m) (same_bits (bit_and (without j m) k) (without j m) same)
  where
    go : (a b d : Bool) → (a ≡ true → b ≡ true) → both (both a (not d)) b ≡ both a (not d)
    go true true true h = refl
    go true true false h = refl
    go true false d h = absurd (clash (h refl) refl)
    go false b d h = refl

    same : (f : ℕ) → bit (bit_and (without j m) k) f ≡ bit (without j m) f
    same f = bit_and_lem (without j m) k f ∙ rw (bit-without j m f) (go (bit j f) (bit k f) (bit m f) (lies_bits j k e f))
