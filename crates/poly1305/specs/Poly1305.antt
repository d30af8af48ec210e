-- RFC 8439 2.5 and 2.5.1: the tag of a message.
use Rattle.std.specs.Prelude.{ℕ, ◌+◌, ◌/◌, List, length}
use Rattle.std.specs.Int.Bits.{bit_and}
use Rattle.base.specs.Lists.{part}
use Rattle.words.specs.Le.{num, le}
use Rattle.limbs.specs.Turns.{turns}

-- 2.5: the four high bits of bytes 3, 7, 11 and 15 of r are cleared, and the two low bits of bytes 4, 8 and 12
unfoldable pub clamp : ℕ → ℕ
clamp r = bit_and r 0x0ffffffc0ffffffc0ffffffc0fffffff

-- 2.5.1: a turn for each 16 bytes of the message and for what is left of it; then s is added, and the lowest 16 bytes are the tag
unfoldable pub poly1305 : List ℕ → List ℕ → List ℕ
poly1305 key m =
    let r = clamp (num (part 0 16 key)) in
    let s = num (part 16 16 key) in
    let a = turns ((length m + 15) / 16) r 0 m in
    le 16 (a + s)
