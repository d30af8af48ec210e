-- The same hash over a message that comes in pieces: a state, a byte taken, and the end.
use Rattle.std.specs.Prelude.{ℕ, ◌+◌, ◌%◌, ◌^◌, min, true, false, List, take, replicate, nat_lt, slice_set}
use Rattle.base.specs.Pick.{pick}
use Rattle.base.specs.Lists.{fold}
use Rattle.words.specs.Le.{serialised, words_of}
use Rattle.blake2s.specs.Compress.{compress}
use Rattle.blake2s.specs.Hash.{padded, initial}
use Rattle.blake2s.specs.declared.State.{State}

-- a full buffer is compressed, with f false; its bytes stay where they are, and none of them counts
unfoldable pub emptied : State → State
emptied s =
    pick (nat_lt s.fill 64) s
    (record {
      chain = compress s.chain (words_of 16 s.buffer) (s.count + 64) false;
      buffer = s.buffer;
      fill = 0;
      count = (s.count + 64) % 2 ^ 64;
    })

-- a byte is laid into the buffer at its fill
unfoldable pub laid_byte : State → ℕ → State
laid_byte s b = record { chain = s.chain; buffer = slice_set s.buffer s.fill b; fill = s.fill + 1; count = s.count }

-- one more byte of the message; so the last block waits in the buffer, full or not
unfoldable pub push : State → ℕ → State
push s b = laid_byte (emptied s) b

unfoldable pub absorbed : State → List ℕ → State
absorbed s m = fold push s m

-- how many bytes of the buffer count
abbrev pub filled : State → ℕ
filled s = min s.fill 64

-- the last block: the bytes that count, zeros, f true, and the count of all bytes
unfoldable pub finished : State → List ℕ
finished s =
    serialised
    (compress s.chain (words_of 16 (padded (take (filled s) s.buffer))) (s.count + filled s) true)

-- no byte yet, and no key
unfoldable pub started : State
started = record { chain = initial 0; buffer = replicate 64 0; fill = 0; count = 0 }

-- no byte of the message yet; the key of 32 bytes, padded, is the first block
unfoldable pub started_keyed : List ℕ → State
started_keyed key = record { chain = initial 32; buffer = padded key; fill = 64; count = 0 }
