-- FIPS 197, 5.3, for keys of 256 bits: the inverse cipher, and the equivalent one that is computed.
use Rattle.std.specs.Prelude.{ℕ, zero, suc, ◌+◌, ◌-◌, ◌/◌, ◌%◌, List, ltb, leb, get_or}
use Rattle.base.specs.Pick.{pick}
use Rattle.base.specs.Lists.{tab}
use Rattle.words.specs.Le.{num}
use Rattle.field.specs.Field.{matrix}
use Rattle.field.specs.Sbox.{inv_sbox}
use Rattle.aes.specs.Aes.{at, by_columns, add_round_key, key_expansion}

-- 5.3.1: INVSHIFTROWS(), row r moves r places to the right, round its end
unfoldable pub inv_shift_rows : List ℕ → List ℕ
inv_shift_rows s = tab 16 (λ i. at s (i % 4) ((i / 4 + 4 - i % 4) % 4))

-- 5.3.2: INVSUBBYTES(), INVSBOX() of each byte
unfoldable pub inv_sub_bytes : List ℕ → List ℕ
inv_sub_bytes s = tab 16 (λ i. inv_sbox (get_or s i 0))

-- 5.3.3: one column of INVMIXCOLUMNS(), [a0, a1, a2, a3] = [{0e}, {09}, {0d}, {0b}]
abbrev pub inv_mix_column : ℕ → ℕ → ℕ → ℕ → List ℕ
inv_mix_column = matrix 0x0e 0x09 0x0d 0x0b

-- 5.3.3: INVMIXCOLUMNS()
abbrev pub inv_mix_columns : List ℕ → List ℕ
inv_mix_columns s = by_columns inv_mix_column s

-- 5.3: rounds n down to 1 of INVCIPHER()
unfoldable pub inv_rounds : List ℕ → ℕ → List ℕ → List ℕ
inv_rounds w zero s = s
inv_rounds w (suc n) s = inv_rounds w n (inv_mix_columns (add_round_key w (suc n) (inv_sub_bytes (inv_shift_rows s))))

-- 5.3: INVCIPHER()
unfoldable pub inv_cipher : List ℕ → List ℕ → List ℕ
inv_cipher w s = add_round_key w 0 (inv_sub_bytes (inv_shift_rows (inv_rounds w 13 (add_round_key w 14 s))))

-- INVCIPHER(in, 14, KEYEXPANSION(key))
unfoldable pub inv_aes256 : List ℕ → List ℕ → List ℕ
inv_aes256 key block = inv_cipher (key_expansion key) block

-- 5.3.5: INVMIXCOLUMNS() of one word
unfoldable pub mixed_word : ℕ → ℕ
mixed_word x = num (inv_mix_column (x % 256) (x / 256 % 256) (x / 256 / 256 % 256) (x / 256 / 256 / 256 % 256))

-- 5.3.5: the words of rounds 1 to 13 are mixed, those of rounds 0 and 14 stand
unfoldable pub modified_at : ℕ → ℕ → ℕ
modified_at i x = pick (ltb i 4) x (pick (leb 56 i) x (mixed_word x))

-- 5.3.5: the modified key schedule dw
unfoldable pub modified : List ℕ → List ℕ
modified w = tab 60 (λ i. modified_at i (get_or w i 0))

-- 5.3.5: KEYEXPANSIONEIC()
unfoldable pub key_expansion_eic : List ℕ → List ℕ
key_expansion_eic key = modified (key_expansion key)

-- 5.3.5: rounds n down to 1 of EQINVCIPHER()
unfoldable pub eq_rounds : List ℕ → ℕ → List ℕ → List ℕ
eq_rounds dw zero s = s
eq_rounds dw (suc n) s = eq_rounds dw n (add_round_key dw (suc n) (inv_mix_columns (inv_shift_rows (inv_sub_bytes s))))

-- 5.3.5: EQINVCIPHER()
unfoldable pub eq_inv_cipher : List ℕ → List ℕ → List ℕ
eq_inv_cipher dw s = add_round_key dw 0 (inv_shift_rows (inv_sub_bytes (eq_rounds dw 13 (add_round_key dw 14 s))))
