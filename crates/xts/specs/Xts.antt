-- IEEE 1619: XTS-AES-256 over whole blocks. Document 02, Item 12: "XTS-AES with two 256-bit keys after IEEE 1619, sectors of 512
-- bytes, the sector number from 0 as a 64-bit tweak."
use Rattle.std.specs.Prelude.{ℕ, zero, suc, ◌*◌, ◌/◌, ◌%◌, List, [], ◌++◌, get_or, take, drop, replicate}
use Rattle.std.specs.Int.Bits.{bit_xor}
use Rattle.base.specs.Lists.{tab}
use Rattle.words.specs.Le.{le}
use Rattle.words.specs.Xor.{xorl}
use Rattle.aes.specs.Aes.{cipher, key_expansion, aes256}
use Rattle.aes_back.specs.InvAes.{inv_aes256}

-- 5.2: what byte k takes over: 135 if the last byte's top bit is set for the first, the top bit of the byte before for each other
unfoldable pub carried : List ℕ → ℕ → ℕ
carried t zero = 135 * (get_or t 15 0 / 128)
carried t (suc k) = get_or t k 0 / 128

-- 5.2: the tweak times alpha, byte by byte
unfoldable pub times_alpha : List ℕ → List ℕ
times_alpha t = tab 16 (λ k. bit_xor (2 * (get_or t k 0 % 128)) (carried t k))

-- 5.3.1 and 5.4.1: one block: the tweak is added, the block goes through f under Key1, and the tweak is added again
unfoldable pub block_by : (List ℕ → List ℕ) → List ℕ → List ℕ → List ℕ
block_by f t p = xorl (f (xorl p t)) t

-- n blocks, each with the tweak times alpha once more
unfoldable pub over_blocks : (List ℕ → List ℕ) → ℕ → List ℕ → List ℕ → List ℕ
over_blocks f zero t d = []
over_blocks f (suc n) t d = block_by f t (take 16 d) ++ over_blocks f n (times_alpha t) (drop 16 d)

-- 5.3.1: the number of the sector, lowest byte first in sixteen bytes, through AES under the second key
unfoldable pub tweak_under : List ℕ → ℕ → List ℕ
tweak_under w i = cipher w (le 8 i ++ replicate 8 0)

-- sector i of 32 blocks through f, under the words of the key for tweaks
unfoldable pub sector_by : (List ℕ → List ℕ) → List ℕ → ℕ → List ℕ → List ℕ
sector_by f w i d = over_blocks f 32 (tweak_under w i) d

-- 5.3: a sector encrypted under the two keys, and decrypted
unfoldable pub xts_encrypted : List ℕ → List ℕ → ℕ → List ℕ → List ℕ
xts_encrypted one two i d = sector_by (aes256 one) (key_expansion two) i d

unfoldable pub xts_decrypted : List ℕ → List ℕ → ℕ → List ℕ → List ℕ
xts_decrypted one two i d = sector_by (inv_aes256 one) (key_expansion two) i d

-- n sectors from number i on
unfoldable pub over_sectors : (ℕ → List ℕ → List ℕ) → ℕ → ℕ → List ℕ → List ℕ
over_sectors f zero i d = []
over_sectors f (suc n) i d = f i (take 512 d) ++ over_sectors f n (suc i) (drop 512 d)
