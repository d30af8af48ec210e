-- RFC 7693, section 3.3: BLAKE2s with 32 bytes out, without a key or with one.
use Rattle.std.specs.Prelude.{ℕ, zero, suc, ◌+◌, ◌-◌, ◌*◌, ◌/◌, true, false, List, [], ◌∷◌, ◌++◌, length, replicate}
use Rattle.base.specs.Lists.{part}
use Rattle.words.specs.Le.{serialised, words_of}
use Rattle.blake2s.specs.Compress.{iv, xor_at, compress}

-- zeros up to the 64 bytes of a block
unfoldable pub padded : List ℕ → List ℕ
padded l = l ++ replicate (64 - length l) 0

-- a key that isn't empty is padded to a block, which stands before the data
unfoldable pub key_block : List ℕ → List ℕ
key_block [] = []
key_block (k ∷ key) = padded (k ∷ key)

-- block i of the key block and the data, in 16 words; the last one is padded too
unfoldable pub block : List ℕ → ℕ → List ℕ
block d i = words_of 16 (padded (part (64 * i) 64 d))

-- the IV, with the parameter block's first word in its first: 0x01010000, the key's length a byte higher, the 32 bytes out
unfoldable pub initial : ℕ → List ℕ
initial kk = xor_at (xor_at (xor_at iv 0 0x01010000) 0 (kk * 256)) 0 32

-- the first n blocks, none of them the last, each with the count of the bytes up to its end
unfoldable pub chained : ℕ → List ℕ → List ℕ → List ℕ
chained zero d h = h
chained (suc i) d h = compress (chained i d h) (block d i) (64 * suc i) false

-- the number of the last block; an empty message without a key has one block too
abbrev pub final : List ℕ → ℕ
final d = (length d + 63) / 64 - 1

-- all blocks of d from h on, the last one marked and with the count of all bytes, the key block's among them; the eight words, each
-- with its lowest byte first, are the 32 bytes out
unfoldable pub hashed : List ℕ → List ℕ → List ℕ
hashed h d = serialised (compress (chained (final d) d h) (block d (final d)) (length d) true)

unfoldable pub blake2s : List ℕ → List ℕ → List ℕ
blake2s key m = hashed (initial (length key)) (key_block key ++ m)
