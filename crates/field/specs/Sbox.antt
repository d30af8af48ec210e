-- FIPS 197, 5.1.1 and 5.3.2: the S-box by its rule, and its inverse by the inverse rule.
use Rattle.std.specs.Prelude.{ℕ, zero, suc, ◌+◌, ◌*◌, ◌/◌, ◌%◌, ◌^◌}
use Rattle.std.specs.Int.Bits.{bit_xor}
use Rattle.field.specs.Field.{inverse}

-- bit i modulo 8 of b
abbrev bit : ℕ → ℕ → ℕ
bit b i = b / 2 ^ (i % 8) % 2

-- the number whose bit i is f i, for i below n
unfoldable pub bits_of : ℕ → (ℕ → ℕ) → ℕ
bits_of zero f = 0
bits_of (suc n) f = bits_of n f + 2 ^ n * f n

-- 5.1.1: bit i of the image is the sum of bits i, i + 4, i + 5, i + 6 and i + 7 modulo 8, and of bit i of c = {63}
unfoldable pub affine : ℕ → ℕ
affine b =
    bits_of 8 (λ i. bit_xor (bit b i) (bit_xor (bit b (i + 4)) (bit_xor (bit b (i + 5)) (bit_xor (bit b (i + 6)) (bit_xor (bit b (i + 7)) (bit 0x63 i))))))

-- its inverse: the sum of bits i + 2, i + 5 and i + 7 modulo 8, and of bit i of {05}
unfoldable pub inv_affine : ℕ → ℕ
inv_affine b = bits_of 8 (λ i. bit_xor (bit b (i + 2)) (bit_xor (bit b (i + 5)) (bit_xor (bit b (i + 7)) (bit 0x05 i))))

-- 5.1.1: SBOX(), the multiplicative inverse, then the affine map
unfoldable pub sbox : ℕ → ℕ
sbox b = affine (inverse b)

-- 5.3.2: INVSBOX(), the inverse of the affine map, then the multiplicative inverse
unfoldable pub inv_sbox : ℕ → ℕ
inv_sbox b = inverse (inv_affine b)
