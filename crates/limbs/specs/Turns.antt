-- RFC 8439 2.5.1: the loop over the message.
use Rattle.std.specs.Prelude.{ℕ, zero, suc, ◌+◌, ◌*◌, ◌%◌, List, [], ◌∷◌, ◌++◌, take, drop}
use Rattle.words.specs.Le.{num}
use Rattle.limbs.specs.Limbs.{p}

-- a block's number with a 1 behind its bytes is added to a, and the sum times r is taken modulo p
unfoldable pub turn : ℕ → ℕ → List ℕ → ℕ
turn r a b = r * (a + num (b ++ (1 ∷ []))) % p

-- n turns, each with the next 16 bytes of m
unfoldable pub turns : ℕ → ℕ → ℕ → List ℕ → ℕ
turns zero r a m = a
turns (suc n) r a m = turns n r (turn r a (take 16 m)) (drop 16 m)
