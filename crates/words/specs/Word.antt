-- 32-bit words.
use Rattle.std.specs.Prelude.{ℕ, ◌+◌, ◌-◌, ◌*◌, ◌/◌, ◌%◌, ◌^◌}
use Rattle.std.specs.Int.Bits.{bit_or}

-- RFC 8439 2.1 and RFC 7693 2.3: the sum of two words, which rolls over at 32 bits
abbrev pub add32 : ℕ → ℕ → ℕ
add32 x y = (x + y) % 2 ^ 32

-- RFC 8439 2.1: the rotation of a word by n bits to the left, where the high bits are
abbrev pub rotl : ℕ → ℕ → ℕ
rotl n x = bit_or (x * 2 ^ n % 2 ^ 32) (x / 2 ^ (32 - n))

-- RFC 7693 2.3: the rotation of a word by n bits to the right; its two halves share no bit, so or and xor give the same
abbrev pub rotr : ℕ → ℕ → ℕ
rotr n x = bit_or (x / 2 ^ n) (x * 2 ^ (32 - n) % 2 ^ 32)
