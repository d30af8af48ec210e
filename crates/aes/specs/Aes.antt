-- FIPS 197 for keys of 256 bits: Nk = 8, Nr = 14. A state is a list of sixteen bytes, and s[r, c] stands at r + 4c (3.4).
-- A word of four bytes is a number, its first byte lowest.
use Rattle.std.specs.Prelude.{ℕ, zero, suc, ◌+◌, ◌*◌, ◌/◌, ◌%◌, List, [], ◌∷◌, ◌++◌, eqb, get_or}
use Rattle.std.specs.Int.Bits.{bit_xor}
use Rattle.base.specs.Pick.{pick}
use Rattle.base.specs.Lists.{tab}
use Rattle.words.specs.Word.{rotr}
use Rattle.words.specs.Le.{num, le, words_of, serialised}
use Rattle.words.specs.Xor.{xorl}
use Rattle.field.specs.Field.{xtimes, matrix}
use Rattle.field.specs.Sbox.{sbox}

-- s[r, c]
abbrev pub at : List ℕ → ℕ → ℕ → ℕ
at s r c = get_or s (r + 4 * c) 0

-- 5.1.1: SUBBYTES(), SBOX() of each byte
unfoldable pub sub_bytes : List ℕ → List ℕ
sub_bytes s = tab 16 (λ i. sbox (get_or s i 0))

-- 5.1.2: SHIFTROWS(), row r moves r places to the left, round its end
unfoldable pub shift_rows : List ℕ → List ℕ
shift_rows s = tab 16 (λ i. at s (i % 4) ((i / 4 + i % 4) % 4))

-- 5.1.3: one column of MIXCOLUMNS(), [a0, a1, a2, a3] = [{02}, {01}, {01}, {03}]
abbrev pub mix_column : ℕ → ℕ → ℕ → ℕ → List ℕ
mix_column = matrix 0x02 0x01 0x01 0x03

-- each column by a rule
unfoldable pub by_columns : (ℕ → ℕ → ℕ → ℕ → List ℕ) → List ℕ → List ℕ
by_columns f s =
    f (at s 0 0) (at s 1 0) (at s 2 0) (at s 3 0)
    ++ (f (at s 0 1) (at s 1 1) (at s 2 1) (at s 3 1)
    ++ (f (at s 0 2) (at s 1 2) (at s 2 2) (at s 3 2) ++ f (at s 0 3) (at s 1 3) (at s 2 3) (at s 3 3)))

-- 5.1.3: MIXCOLUMNS()
abbrev pub mix_columns : List ℕ → List ℕ
mix_columns s = by_columns mix_column s

-- the words of round n: w[4n], .. , w[4n + 3]
unfoldable pub round_key : List ℕ → ℕ → List ℕ
round_key w n = get_or w (4 * n) 0 ∷ get_or w (4 * n + 1) 0 ∷ get_or w (4 * n + 2) 0 ∷ get_or w (4 * n + 3) 0 ∷ []

-- 5.1.4: ADDROUNDKEY()
unfoldable pub add_round_key : List ℕ → ℕ → List ℕ → List ℕ
add_round_key w n s = xorl s (serialised (round_key w n))

-- 5.2: SUBWORD(), SBOX() of each byte of a word
unfoldable pub sub_word : ℕ → ℕ
sub_word x = num (tab 4 (λ i. sbox (get_or (le 4 x) i 0)))

-- 5.2: ROTWORD([a0, a1, a2, a3]) = [a1, a2, a3, a0]
abbrev pub rot_word : ℕ → ℕ
rot_word x = rotr 8 x

-- 5.2: Rcon[j], x^(j - 1) in the first byte and zeros
unfoldable pub rcon : ℕ → ℕ
rcon zero = 0
rcon (suc zero) = 1
rcon (suc (suc j)) = xtimes (rcon (suc j))

-- 5.2, KEYEXPANSION(): what temp = w[i - 1] becomes before it is added to w[i - 8]
unfoldable pub temp_at : ℕ → ℕ → ℕ
temp_at i temp =
    pick (eqb (i % 8) 0) (bit_xor (sub_word (rot_word temp)) (rcon (i / 8)))
    (pick (eqb (i % 8) 4) (sub_word temp) temp)

-- 5.2: the key's eight words, and n words more
unfoldable pub key_schedule : List ℕ → ℕ → List ℕ
key_schedule key zero = words_of 8 key
key_schedule key (suc n) =
    let w = key_schedule key n in
    w ++ (bit_xor (get_or w n 0) (temp_at (n + 8) (get_or w (n + 7) 0)) ∷ [])

-- 5.2: KEYEXPANSION(), 4 (Nr + 1) words
unfoldable pub key_expansion : List ℕ → List ℕ
key_expansion key = key_schedule key 52

-- 5.1: rounds 1 to n of CIPHER()
unfoldable pub rounds : List ℕ → ℕ → List ℕ → List ℕ
rounds w zero s = s
rounds w (suc n) s = add_round_key w (suc n) (mix_columns (shift_rows (sub_bytes (rounds w n s))))

-- 5.1: CIPHER()
unfoldable pub cipher : List ℕ → List ℕ → List ℕ
cipher w s = add_round_key w 14 (shift_rows (sub_bytes (rounds w 13 (add_round_key w 0 s))))

-- section 5: AES-256(in, key) = CIPHER(in, 14, KEYEXPANSION(key))
unfoldable pub aes256 : List ℕ → List ℕ → List ℕ
aes256 key block = cipher (key_expansion key) block
