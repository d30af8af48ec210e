-- What the pad rule asks of a cipher, and the two that a volume may have. Document 02, Item 8: "A format option chooses the cipher of the
-- volume, [..]: 16 for AES, 0 for ChaCha20. [..] the pad rule is proved once over both."
use Rattle.std.specs.Prelude.{◌≡◌, Bool, true, false, List, ◌++◌, ℕ, ◌+◌, ◌/◌, ◌%◌, ◌^◌, ◌<◌, eqb, length, get_or, replicate}
use Rattle.words.specs.Le.{le, Bytes}
use Rattle.chacha20.specs.ChaCha20.{block_of}
use Rattle.aes.specs.Aes.{aes256}
use Rattle.ctr.specs.Ctr.{counter_block}

-- a block function: what it is given beside the key, how many bytes it gives, its input for a keycount and the number of a block, and the
-- bytes that a key and an input give
pub record Cipher : Type 1 where
  pub Input : Type 0
  pub unit : ℕ
  pub input : ℕ → ℕ → Input
  pub give : List ℕ → Input → List ℕ

-- All that is asked of it: a flake is whole blocks, a block is so many bytes, and an input tells its keycount and its block.
pub record Lawful (c : Cipher) : Type 0 where
  pub some : 0 < c.unit
  pub whole : (size : ℕ) → size % 64 ≡ 0 → size % c.unit ≡ 0
  pub long : (key : List ℕ) (k n : ℕ) → length (c.give key (c.input k n)) ≡ c.unit
  pub bytes : (key : List ℕ) (k n : ℕ) → Bytes (c.give key (c.input k n))
  pub once : (k l m n : ℕ) → k < 2 ^ 64 → l < 2 ^ 64 → m < 2 ^ 32 → n < 2 ^ 32 → c.input k m ≡ c.input l n → (k ≡ l) × (m ≡ n)

-- byte i of the keystream from block n on: "F bytes of [..] keystream", block after block
abbrev pub stream_byte : Cipher → List ℕ → ℕ → ℕ → ℕ → ℕ
stream_byte c key k n i = get_or (c.give key (c.input k (n + i / c.unit))) (i % c.unit) 0

-- "nonce of four zero bytes then the keycount"
unfoldable pub nonce_of : ℕ → List ℕ
nonce_of k = replicate 4 0 ++ le 8 k

-- what ChaCha20's block function is given beside the key
pub record Nonced : Type 0 where
  pub nonce : List ℕ
  pub block : ℕ

-- Document 01: "ChaCha20 keystream: the nugget key, nonce of four zero bytes then the keycount, block counter"
abbrev pub chacha20 : Cipher
chacha20 =
    record {
      Input = Nonced;
      unit = 64;
      input = λ k n. record { nonce = nonce_of k; block = n };
      give = λ key x. block_of key x.nonce x.block;
    }

-- Item 8: "The counter block is the keycount in 8 bytes, then the block number [..] in 8 bytes, both most significant byte first"
abbrev pub aes : Cipher
aes = record { Input = List ℕ; unit = 16; input = λ k n. counter_block k n; give = λ key x. aes256 key x }

-- "16 for AES, 0 for ChaCha20"; no volume has another (`known`)
abbrev pub cipher_by : Bool → Cipher
cipher_by true = aes
cipher_by false = chacha20

abbrev pub cipher_of : ℕ → Cipher
cipher_of x = cipher_by (eqb x 16)
