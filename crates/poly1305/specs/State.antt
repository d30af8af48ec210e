-- The state between pieces of a message, as a function of the bytes that were absorbed.
use Rattle.std.specs.Prelude.{◌≡◌, List, ℕ, ◌+◌, ◌<◌, ◌^◌, ltb, eqb, length, take, set, replicate}
use Rattle.base.specs.Pick.{pick}
use Rattle.base.specs.Lists.{part, fold}
use Rattle.words.specs.Le.{num, le}
use Rattle.limbs.specs.Limbs.{value, limbs_of}
use Rattle.limbs.specs.Bounds.{Below, Reduced}
use Rattle.limbs.specs.Turns.{turn}
use Rattle.poly1305.specs.declared.State.{State}
use Rattle.poly1305.specs.Poly1305.{clamp}

abbrev pub zero_block : List ℕ
zero_block = replicate 16 0

-- nothing absorbed yet
unfoldable pub started : List ℕ → State
started key =
    record { r = limbs_of (clamp (num (part 0 16 key))); acc = limbs_of 0; s = limbs_of (num (part 16 16 key)); buf = zero_block; fill = 0 }

-- the accumulator is the number a, and the buffer is empty
abbrev pub emptied : State → ℕ → State
emptied s a = record { r = s.r; acc = limbs_of a; s = s.s; buf = zero_block; fill = 0 }

-- the buffer is l, of which n bytes are taken
abbrev pub held : State → List ℕ → ℕ → State
held s l n = record { r = s.r; acc = s.acc; s = s.s; buf = l; fill = n }

-- one byte more: as soon as the buffer is full its block is added to the accumulator
unfoldable pub push : State → ℕ → State
push s b =
    pick (ltb (s.fill + 1) 16)
    (held s (set s.buf s.fill b) (s.fill + 1))
    (emptied s (turn (value s.r) (value s.acc) (set s.buf s.fill b)))

-- a piece of the message, byte by byte
abbrev pub absorbed : State → List ℕ → State
absorbed s m = fold push s m

-- the accumulator after a last, shorter block
unfoldable pub ended : State → ℕ
ended s = pick (eqb s.fill 0) (value s.acc) (turn (value s.r) (value s.acc) (take s.fill s.buf))

-- the tag
unfoldable pub finished : State → List ℕ
finished s = le 16 (ended s + value s.s)

-- a state that start and absorb give
pub record GoodState (s : State) : Type 0 where
  pub key : Below (2 ^ 26) s.r
  pub sum : Reduced s.acc
  pub pad : Below (2 ^ 26) s.s
  pub room : s.fill < 16
  pub whole : length s.buf ≡ 16
