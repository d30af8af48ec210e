-- Numbers as decimal digits: no leading zeros, at least one digit.
use Rattle.std.specs.Prelude.{ℕ, zero, suc, ◌+◌, ◌/◌, ◌%◌, List, [], ◌∷◌, ◌++◌, ltb}
use Rattle.base.specs.Pick.{pick}

-- the w lowest decimal digits of n, highest first
unfoldable pub digits : ℕ → ℕ → List ℕ
digits zero n = []
digits (suc w) n = digits w (n / 10) ++ ((48 + n % 10) ∷ [])

-- how many digits n has, in k tries
unfoldable pub width_in : ℕ → ℕ → ℕ
width_in zero n = 1
width_in (suc k) n = pick (ltb n 10) 1 (1 + width_in k (n / 10))

-- a number of 32 bits has at most ten digits
unfoldable pub decimal : ℕ → List ℕ
decimal n = digits (width_in 9 n) n

-- a number of 64 bits has at most twenty
unfoldable pub long_decimal : ℕ → List ℕ
long_decimal n = digits (width_in 19 n) n
