-- FIPS 197, section 4: a byte is a polynomial over {0, 1}, bit i the coefficient of x^i, modulo m(x) = x^8 + x^4 + x^3 + x + 1.
-- 4.1: the sum of two bytes is their xor.
use Rattle.std.specs.Prelude.{ℕ, zero, suc, ◌*◌, ◌/◌, ◌%◌, List, [], ◌∷◌}
use Rattle.std.specs.Int.Bits.{bit_xor}

-- 4.2: XTIMES(b), b times x: the bits move up by one, and {1b} is added if bit 7 was set
unfoldable pub xtimes : ℕ → ℕ
xtimes b = bit_xor (b * 2 % 256) (b / 128 % 2 * 0x1b)

-- the sum of b • x^i over those of the n lowest bits i of a that are set
unfoldable pub mul_bits : ℕ → ℕ → ℕ → ℕ
mul_bits zero a b = 0
mul_bits (suc n) a b = bit_xor (a % 2 * b) (mul_bits n (a / 2) (xtimes b))

-- 4.2: a • b
unfoldable pub mul : ℕ → ℕ → ℕ
mul a b = mul_bits 8 a b

-- 4.4: the inverse of b is b to the 254th, which is 0 for 0; 254 = 2 + 4 + 8 + 16 + 32 + 64 + 128
unfoldable pub inverse : ℕ → ℕ
inverse b =
    let b₂ = mul b b in
    let b₄ = mul b₂ b₂ in
    let b₈ = mul b₄ b₄ in
    let b₁₆ = mul b₈ b₈ in
    let b₃₂ = mul b₁₆ b₁₆ in
    let b₆₄ = mul b₃₂ b₃₂ in
    let b₁₂₈ = mul b₆₄ b₆₄ in
    mul b₂ (mul b₄ (mul b₈ (mul b₁₆ (mul b₃₂ (mul b₆₄ b₁₂₈)))))

-- the sum of four
abbrev pub sum4 : ℕ → ℕ → ℕ → ℕ → ℕ
sum4 a b c d = bit_xor (bit_xor (bit_xor a b) c) d

-- 4.3: the word of b0, b1, b2, b3 multiplied by the fixed matrix of [a0, a1, a2, a3]
unfoldable pub matrix : ℕ → ℕ → ℕ → ℕ → ℕ → ℕ → ℕ → ℕ → List ℕ
matrix a₀ a₁ a₂ a₃ b₀ b₁ b₂ b₃ =
    sum4 (mul a₀ b₀) (mul a₃ b₁) (mul a₂ b₂) (mul a₁ b₃)
    ∷ sum4 (mul a₁ b₀) (mul a₀ b₁) (mul a₃ b₂) (mul a₂ b₃)
    ∷ sum4 (mul a₂ b₀) (mul a₁ b₁) (mul a₀ b₂) (mul a₃ b₃)
    ∷ sum4 (mul a₃ b₀) (mul a₂ b₁) (mul a₁ b₂) (mul a₀ b₃)
    ∷ []
