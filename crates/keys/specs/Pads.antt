-- Document 01: "The pad of a flake is F bytes of ChaCha20 keystream: the nugget key, nonce of four zero bytes then the
-- keycount, block counter from flake × F / 64." Document 02, Item 8, for AES: "the block number from flake × F / 16".
use Rattle.std.specs.Prelude.{◌≡◌, List, ℕ, ◌+◌, ◌*◌, ◌/◌, ◌%◌, ◌^◌, ◌<◌, ◌≤◌, drop, replicate}
use Rattle.base.specs.Lists.{tab}
use Rattle.words.specs.Xor.{xorl}
use Rattle.keys.specs.declared.Lock.{Lock}
use Rattle.keys.specs.Ciphers.{Cipher, stream_byte, cipher_of}

-- the cipher of a lock, and how many bytes its block function gives
abbrev pub cipher_for : Lock → Cipher
cipher_for lock = cipher_of lock.cipher

abbrev pub unit_of : ℕ → ℕ
unit_of cipher = (cipher_of cipher).unit

-- "from flake × F / 64", "from flake × F / 16"
unfoldable pub first_block : ℕ → ℕ → ℕ → ℕ
first_block unit size f = f * size / unit

-- m bytes of a lock's keystream, from byte `skip` of block n on
unfoldable pub stream_from : Lock → ℕ → ℕ → ℕ → List ℕ
stream_from lock n skip m = tab m (λ i. stream_byte (cipher_for lock) lock.key lock.keycount n (skip + i))

-- "F bytes of [..] keystream"
unfoldable pub pad_of : Lock → ℕ → ℕ → List ℕ
pad_of lock f size = tab size (stream_byte (cipher_for lock) lock.key lock.keycount (first_block (cipher_for lock).unit size f))

-- 512 bytes for it, from its byte b on: zeros with what is left of it laid over
unfoldable pub pad_from : Lock → ℕ → ℕ → ℕ → List ℕ
pad_from lock f size b = xorl (replicate 512 0) (drop b (pad_of lock f size))

-- "Stored flake = contents xor pad."
abbrev pub under : Lock → ℕ → ℕ → List ℕ → List ℕ
under lock f size contents = xorl contents (pad_of lock f size)

-- "Flake size F: 64 to 4,096, a multiple of 64."
pub record Size (size : ℕ) : Type 0 where
  pub least : 64 ≤ size
  pub most : size ≤ 4096
  pub whole : size % 64 ≡ 0

-- a block of keystream in a pad of a nugget: which keycount's and which flake's pad, and which block of it
pub record Stretch : Type 0 where
  pub keycount : ℕ
  pub flake : ℕ
  pub place : ℕ

-- the one at a place of a lock's pad of flake f
abbrev pub stretch_in : Lock → ℕ → ℕ → Stretch
stretch_in lock f j = record { keycount = lock.keycount; flake = f; place = j }

-- the stretches there are
pub record Lies (c : Cipher) (size : ℕ) (s : Stretch) : Type 0 where
  pub count : s.keycount < 2 ^ 64
  pub few : s.flake < 64
  pub inside : s.place < size / c.unit

-- what the block function is given for it beside the key
abbrev pub input_of : (c : Cipher) → ℕ → Stretch → c.Input
input_of c size s = c.input s.keycount (first_block c.unit size s.flake + s.place)
