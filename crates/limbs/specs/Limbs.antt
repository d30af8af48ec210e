-- Numbers below 2^130 in five limbs of 26 bits.
use Rattle.std.specs.Prelude.{ℕ, ◌+◌, ◌-◌, ◌*◌, ◌/◌, ◌%◌, ◌^◌}
use Rattle.limbs.specs.declared.Limbs.{Limbs}

-- the number whose digits to the base B these are, lowest first
unfoldable pub at : ℕ → ℕ → ℕ → ℕ → ℕ → ℕ → ℕ
at B a b c d e = a + B * (b + B * (c + B * (d + B * e)))

abbrev pub value : Limbs → ℕ
value x = at (2 ^ 26) x.l0 x.l1 x.l2 x.l3 x.l4

abbrev pub digit : ℕ → ℕ → ℕ
digit k x = x / 2 ^ (26 * k) % 2 ^ 26

-- the five digits of x
unfoldable pub limbs_of : ℕ → Limbs
limbs_of x = record { l0 = digit 0 x; l1 = digit 1 x; l2 = digit 2 x; l3 = digit 3 x; l4 = digit 4 x }

-- the number whose 32-bit words these are, lowest first
unfoldable pub quad : ℕ → ℕ → ℕ → ℕ → ℕ
quad a b c d = a + 2 ^ 32 * (b + 2 ^ 32 * (c + 2 ^ 32 * d))

-- RFC 8439 2.5.1: the prime that turns are taken modulo
unfoldable pub p : ℕ
p = 2 ^ 130 - 5
