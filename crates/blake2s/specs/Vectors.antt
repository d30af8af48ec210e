-- RFC 7693, appendix B: the BLAKE2s-256 of "abc".
use Rattle.std.specs.Prelude.{◌≡◌, [], ◌∷◌, refl}
use Rattle.base.specs.Lists.{tab}
use Rattle.words.specs.Le.{num, le, serialised, words_of}
use Rattle.blake2s.specs.Compress.{iv, sigma, mix, mix_at, round, rounds, vector, compress}
use Rattle.blake2s.specs.Hash.{padded, key_block, block, initial, chained, hashed, blake2s}

abc : blake2s [] (0x61 ∷ 0x62 ∷ 0x63 ∷ [])
    ≡ 0x50 ∷ 0x8C ∷ 0x5E ∷ 0x8C ∷ 0x32 ∷ 0x7C ∷ 0x14 ∷ 0xE2 ∷ 0xE1 ∷ 0xA7 ∷ 0x2B ∷ 0xA3 ∷ 0x4E ∷ 0xEB ∷ 0x45 ∷ 0x2F
    ∷ 0x37 ∷ 0x45 ∷ 0x8B ∷ 0x20 ∷ 0x9E ∷ 0xD6 ∷ 0x3A ∷ 0x29 ∷ 0x4D ∷ 0x99 ∷ 0x9B ∷ 0x4C ∷ 0x86 ∷ 0x67 ∷ 0x59 ∷ 0x82
    ∷ []
unfolding tab num le words_of iv sigma mix mix_at round rounds vector compress padded key_block block initial chained serialised hashed blake2s
abc = refl
