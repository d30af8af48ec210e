-- A matrix that undoes another: sixteen linear functions of one byte, each known by its values at 1, 2, 4, .. , 128.
use mathlib.Core.Path.{◌≡◌, refl, ap₂, sym, ◌∙◌}
use mathlib.Core.List.{List, [], ◌∷◌, ◌++◌}
use Prim.Native.Nat.{ℕ, ◌+◌, ◌*◌, ◌^◌, ◌<◌}
use native.Mathlib.Nat.{one-mul, zero-mul}
use native.Mathlib.Omega.{arith}
use lib.Bits.{bit_xor, xor_zero_r}
use Rattle.base.specs.Lists.{tab}
use Rattle.field.specs.Field.{xtimes, mul_bits, mul, sum4, matrix}
use Rattle.field.proofs.FieldLaws.{Linear, mul_lin, then_lin, sum4_lin, digit-times, on-bytes, sum4_of, sum4-turn, sum4-same, sum4_swap}
use Rattle.words.specs.Xor.{xorl}
use Rattle.aes.specs.Aes.{at, by_columns}
use Rattle.aes.proofs.StateLaws.{State, listed}

-- one row of the second matrix over the columns of the first
module _ (a₀ a₁ a₂ a₃ k l m n : ℕ) where
  -- what one byte of the column adds
  abbrev part : ℕ → ℕ → ℕ → ℕ → ℕ → ℕ
  part p q r s x = sum4 (mul k (mul p x)) (mul l (mul q x)) (mul m (mul r x)) (mul n (mul s x))

  part_lin : (p q r s : ℕ) → Linear (part p q r s)
  part_lin p q r s =
      sum4_lin (then_lin (mul_lin k) (mul_lin p)) (then_lin (mul_lin l) (mul_lin q)) (then_lin (mul_lin m) (mul_lin r)) (then_lin (mul_lin n) (mul_lin s))

  -- the four parts are the digits p, q, r, s of their bytes
  pub record Row (p q r s : ℕ) : Type 0 where
    pub first : tab 8 (λ i. part a₀ a₁ a₂ a₃ (2 ^ i)) ≡ tab 8 (λ i. p * 2 ^ i)
    pub second : tab 8 (λ i. part a₃ a₀ a₁ a₂ (2 ^ i)) ≡ tab 8 (λ i. q * 2 ^ i)
    pub third : tab 8 (λ i. part a₂ a₃ a₀ a₁ (2 ^ i)) ≡ tab 8 (λ i. r * 2 ^ i)
    pub fourth : tab 8 (λ i. part a₁ a₂ a₃ a₀ (2 ^ i)) ≡ tab 8 (λ i. s * 2 ^ i)

  row_is : (p q r s : ℕ) → p < 2 → q < 2 → r < 2 → s < 2 → Row p q r s → (a b c d : ℕ) → a < 256 → b < 256 → c < 256 → d < 256
      → sum4 (mul k (sum4 (mul a₀ a) (mul a₃ b) (mul a₂ c) (mul a₁ d))) (mul l (sum4 (mul a₁ a) (mul a₀ b) (mul a₃ c) (mul a₂ d)))
      (mul m (sum4 (mul a₂ a) (mul a₁ b) (mul a₀ c) (mul a₃ d))) (mul n (sum4 (mul a₃ a) (mul a₂ b) (mul a₁ c) (mul a₀ d)))
      ≡ sum4 (p * a) (q * b) (r * c) (s * d)
  row_is p q r s hp hq hr hs row a b c d ha hb hc hd =
      sum4-same (sum4_of k (mul a₀ a) (mul a₃ b) (mul a₂ c) (mul a₁ d)) (sum4_of l (mul a₁ a) (mul a₀ b) (mul a₃ c) (mul a₂ d))
      (sum4_of m (mul a₂ a) (mul a₁ b) (mul a₀ c) (mul a₃ d)) (sum4_of n (mul a₃ a) (mul a₂ b) (mul a₁ c) (mul a₀ d))
      ∙ sum4-turn (mul k (mul a₀ a)) (mul k (mul a₃ b)) (mul k (mul a₂ c)) (mul k (mul a₁ d)) (mul l (mul a₁ a)) (mul l (mul a₀ b)) (mul l (mul a₃ c))
      (mul l (mul a₂ d)) (mul m (mul a₂ a)) (mul m (mul a₁ b)) (mul m (mul a₀ c)) (mul m (mul a₃ d)) (mul n (mul a₃ a)) (mul n (mul a₂ b)) (mul n (mul a₁ c))
      (mul n (mul a₀ d))
      ∙ sum4-same (on-bytes (part a₀ a₁ a₂ a₃) (λ x. p * x) (part_lin a₀ a₁ a₂ a₃) (digit-times p hp) row.first a ha)
      (on-bytes (part a₃ a₀ a₁ a₂) (λ x. q * x) (part_lin a₃ a₀ a₁ a₂) (digit-times q hq) row.second b hb)
      (on-bytes (part a₂ a₃ a₀ a₁) (λ x. r * x) (part_lin a₂ a₃ a₀ a₁) (digit-times r hr) row.third c hc)
      (on-bytes (part a₁ a₂ a₃ a₀) (λ x. s * x) (part_lin a₁ a₂ a₃ a₀) (digit-times s hs) row.fourth d hd)

-- a digit 1 among zeros
only_1 : (a b c d : ℕ) → sum4 (1 * a) (0 * b) (0 * c) (0 * d) ≡ a
only_1 a b c d = sum4-same (one-mul a) (zero-mul b) (zero-mul c) (zero-mul d) ∙ xor_zero_r (bit_xor (bit_xor a 0) 0) ∙ xor_zero_r (bit_xor a 0) ∙ xor_zero_r a

only_2 : (a b c d : ℕ) → sum4 (0 * a) (1 * b) (0 * c) (0 * d) ≡ b
only_2 a b c d = sum4-same (zero-mul a) (one-mul b) (zero-mul c) (zero-mul d) ∙ xor_zero_r (bit_xor b 0) ∙ xor_zero_r b

only_3 : (a b c d : ℕ) → sum4 (0 * a) (0 * b) (1 * c) (0 * d) ≡ c
only_3 a b c d = sum4-same (zero-mul a) (zero-mul b) (one-mul c) (zero-mul d) ∙ xor_zero_r c

only_4 : (a b c d : ℕ) → sum4 (0 * a) (0 * b) (0 * c) (1 * d) ≡ d
only_4 a b c d = sum4-same (zero-mul a) (zero-mul b) (zero-mul c) (one-mul d)

module _ (a₀ a₁ a₂ a₃ k₀ k₁ k₂ k₃ : ℕ) where
  -- the product of the two matrices is the unit matrix
  pub record Undoes : Type 0 where
    pub one : Row a₀ a₁ a₂ a₃ k₀ k₃ k₂ k₁ 1 0 0 0
    pub two : Row a₀ a₁ a₂ a₃ k₁ k₀ k₃ k₂ 0 1 0 0
    pub three : Row a₀ a₁ a₂ a₃ k₂ k₁ k₀ k₃ 0 0 1 0
    pub four : Row a₀ a₁ a₂ a₃ k₃ k₂ k₁ k₀ 0 0 0 1

  column_back : Undoes → (a b c d : ℕ) → a < 256 → b < 256 → c < 256 → d < 256
      → matrix k₀ k₁ k₂ k₃ (sum4 (mul a₀ a) (mul a₃ b) (mul a₂ c) (mul a₁ d)) (sum4 (mul a₁ a) (mul a₀ b) (mul a₃ c) (mul a₂ d))
      (sum4 (mul a₂ a) (mul a₁ b) (mul a₀ c) (mul a₃ d)) (sum4 (mul a₃ a) (mul a₂ b) (mul a₁ c) (mul a₀ d))
      ≡ a ∷ b ∷ c ∷ d ∷ []
  unfolding matrix
  column_back undoes a b c d p q r s =
      let o : 0 < 2 = omega arith in
      let i : 1 < 2 = omega arith in
      let e1 = row_is a₀ a₁ a₂ a₃ k₀ k₃ k₂ k₁ 1 0 0 0 i o o o undoes.one a b c d p q r s ∙ only_1 a b c d in
      let e2 = row_is a₀ a₁ a₂ a₃ k₁ k₀ k₃ k₂ 0 1 0 0 o i o o undoes.two a b c d p q r s ∙ only_2 a b c d in
      let e3 = row_is a₀ a₁ a₂ a₃ k₂ k₁ k₀ k₃ 0 0 1 0 o o i o undoes.three a b c d p q r s ∙ only_3 a b c d in
      let e4 = row_is a₀ a₁ a₂ a₃ k₃ k₂ k₁ k₀ 0 0 0 1 o o o i undoes.four a b c d p q r s ∙ only_4 a b c d in
      λ j. e1 j ∷ e2 j ∷ e3 j ∷ e4 j ∷ []

  -- a row over column c of s
  abbrev entry : List ℕ → ℕ → ℕ → ℕ → ℕ → ℕ → ℕ
  entry s c p q r v = sum4 (mul p (at s 0 c)) (mul q (at s 1 c)) (mul r (at s 2 c)) (mul v (at s 3 c))

  pub mix-back : Undoes → (s : List ℕ) → State s → by_columns (matrix k₀ k₁ k₂ k₃) (by_columns (matrix a₀ a₁ a₂ a₃) s) ≡ s
  unfolding by_columns matrix tab
  mix-back undoes s h =
      let join : List ℕ → List ℕ → List ℕ = λ x y. x ++ y in
      let col : (c : ℕ) → matrix k₀ k₁ k₂ k₃ (entry s c a₀ a₃ a₂ a₁) (entry s c a₁ a₀ a₃ a₂) (entry s c a₂ a₁ a₀ a₃) (entry s c a₃ a₂ a₁ a₀)
      ≡ at s 0 c ∷ at s 1 c ∷ at s 2 c ∷ at s 3 c ∷ []
      = λ c. column_back undoes (at s 0 c) (at s 1 c) (at s 2 c) (at s 3 c) (h.bytes (0 + 4 * c)) (h.bytes (1 + 4 * c)) (h.bytes (2 + 4 * c))
      (h.bytes (3 + 4 * c)) in
      ap₂ join (col 0) (ap₂ join (col 1) (ap₂ join (col 2) (col 3))) ∙ sym (listed s h.long)

pub inv_undoes : Undoes 0x02 0x01 0x01 0x03 0x0e 0x09 0x0d 0x0b
unfolding tab mul mul_bits xtimes
inv_undoes = record {
  one = record { first = refl; second = refl; third = refl; fourth = refl };
  two = record { first = refl; second = refl; third = refl; fourth = refl };
  three = record { first = refl; second = refl; third = refl; fourth = refl };
  four = record { first = refl; second = refl; third = refl; fourth = refl };
}

pub undoes_inv : Undoes 0x0e 0x09 0x0d 0x0b 0x02 0x01 0x01 0x03
unfolding tab mul mul_bits xtimes
undoes_inv = record {
  one = record { first = refl; second = refl; third = refl; fourth = refl };
  two = record { first = refl; second = refl; third = refl; fourth = refl };
  three = record { first = refl; second = refl; third = refl; fourth = refl };
  four = record { first = refl; second = refl; third = refl; fourth = refl };
}

-- the sum of two columns
pub matrix-sum : (k₀ k₁ k₂ k₃ a b c d e f g h : ℕ)
    → matrix k₀ k₁ k₂ k₃ (bit_xor a e) (bit_xor b f) (bit_xor c g) (bit_xor d h) ≡ xorl (matrix k₀ k₁ k₂ k₃ a b c d) (matrix k₀ k₁ k₂ k₃ e f g h)
unfolding matrix xorl
matrix-sum k₀ k₁ k₂ k₃ a b c d e f g h =
    let one : (k l m n : ℕ) → sum4 (mul k (bit_xor a e)) (mul l (bit_xor b f)) (mul m (bit_xor c g)) (mul n (bit_xor d h))
    ≡ bit_xor (sum4 (mul k a) (mul l b) (mul m c) (mul n d)) (sum4 (mul k e) (mul l f) (mul m g) (mul n h))
    = λ k l m n. sum4-same ((mul_lin k).sums a e) ((mul_lin l).sums b f) ((mul_lin m).sums c g) ((mul_lin n).sums d h)
    ∙ sym (sum4_swap (mul k a) (mul l b) (mul m c) (mul n d) (mul k e) (mul l f) (mul m g) (mul n h)) in
    λ i. one k₀ k₃ k₂ k₁ i ∷ one k₁ k₀ k₃ k₂ i ∷ one k₂ k₁ k₀ k₃ i ∷ one k₃ k₂ k₁ k₀ i ∷ []
