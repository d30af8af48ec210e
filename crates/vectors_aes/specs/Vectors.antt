-- FIPS 197, C.3, computed from the definitions, the S-box by its rule. It stands here and not in `aes` since it takes as long as all of that crate.
use Rattle.std.specs.Prelude.{◌≡◌, refl, List, [], ◌∷◌, ℕ}
use Rattle.base.specs.Lists.{tab}
use Rattle.words.specs.Le.{num, le, words_of, serialised}
use Rattle.words.specs.Xor.{xorl}
use Rattle.field.specs.Field.{xtimes, mul_bits, mul, inverse, matrix}
use Rattle.field.specs.Sbox.{bits_of, affine, sbox}
use Rattle.aes.specs.Aes.{sub_bytes, shift_rows, by_columns, round_key, add_round_key, sub_word, rcon, temp_at, key_schedule, key_expansion, rounds, cipher, aes256}

abbrev plain : List ℕ
plain = 0x00 ∷ 0x11 ∷ 0x22 ∷ 0x33 ∷ 0x44 ∷ 0x55 ∷ 0x66 ∷ 0x77 ∷ 0x88 ∷ 0x99 ∷ 0xaa ∷ 0xbb ∷ 0xcc ∷ 0xdd ∷ 0xee ∷ 0xff ∷ []

abbrev sealed : List ℕ
sealed = 0x8e ∷ 0xa2 ∷ 0xb7 ∷ 0xca ∷ 0x51 ∷ 0x67 ∷ 0x45 ∷ 0xbf ∷ 0xea ∷ 0xfc ∷ 0x49 ∷ 0x90 ∷ 0x4b ∷ 0x49 ∷ 0x60 ∷ 0x89 ∷ []

pub cipher-vector : aes256 (tab 32 (λ i. i)) plain ≡ sealed
unfolding tab num le words_of serialised xorl xtimes mul_bits mul inverse bits_of affine sbox sub_bytes shift_rows matrix by_columns round_key add_round_key sub_word rcon temp_at key_schedule key_expansion rounds cipher aes256
cipher-vector = refl
