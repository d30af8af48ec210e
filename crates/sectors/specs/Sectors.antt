-- A buffer of whole sectors: "sectors of 512 bytes, the sector number from 0 as a 64-bit tweak".
use Rattle.std.specs.Prelude.{ℕ, ◌/◌, List, length}
use Rattle.xts.specs.Xts.{xts_encrypted, xts_decrypted, over_sectors}

-- the sectors of a buffer, the first of them of number i
unfoldable pub encrypted_from : List ℕ → List ℕ → ℕ → List ℕ → List ℕ
encrypted_from one two i d = over_sectors (xts_encrypted one two) (length d / 512) i d

unfoldable pub decrypted_from : List ℕ → List ℕ → ℕ → List ℕ → List ℕ
decrypted_from one two i d = over_sectors (xts_decrypted one two) (length d / 512) i d
