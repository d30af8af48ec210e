-- NIST SP 800-38A, 6.5: counter mode over AES-256. Document 02, Item 8: "The counter block is the keycount in 8 bytes, then the
-- block number from flake × F / 16 in 8 bytes, both most significant byte first, stepping as NIST SP 800-38A says."
use Rattle.std.specs.Prelude.{ℕ, zero, suc, ◌+◌, ◌/◌, ◌%◌, ◌^◌, List, [], ◌∷◌, ◌++◌, length}
use Rattle.words.specs.Xor.{xorl}
use Rattle.aes.specs.Aes.{cipher, key_expansion}

-- the k lowest bytes of x, most significant first
unfoldable pub be : ℕ → ℕ → List ℕ
be zero x = []
be (suc k) x = x / 256 ^ k % 256 ∷ be k x

unfoldable pub counter_block : ℕ → ℕ → List ℕ
counter_block keycount number = be 8 keycount ++ be 8 number

-- B.1: the standard incrementing function on the last 64 bits, which adds 1 and rolls over, j times; the keycount stands
abbrev pub stepped : ℕ → ℕ → ℕ
stepped number j = (number + j) % 2 ^ 64

-- 6.5: the output blocks O_1, .. , O_j under the words of a key
unfoldable pub output_blocks : List ℕ → ℕ → ℕ → ℕ → List ℕ
output_blocks w keycount number zero = []
output_blocks w keycount number (suc j) = output_blocks w keycount number j ++ cipher w (counter_block keycount (stepped number j))

-- as many blocks as n bytes take
abbrev pub blocks : ℕ → ℕ
blocks n = (n + 15) / 16

-- 6.5: the text xor the output blocks, of the last one as many bytes as the text has left; encryption and decryption are the same
unfoldable pub laid_under : List ℕ → ℕ → ℕ → List ℕ → List ℕ
laid_under w keycount number text = xorl text (output_blocks w keycount number (blocks (length text)))

-- the same under a key
unfoldable pub counter_mode : List ℕ → ℕ → ℕ → List ℕ → List ℕ
counter_mode key keycount number text = laid_under (key_expansion key) keycount number text
