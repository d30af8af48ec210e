-- The xor of two lists of bytes.
use Rattle.std.specs.Prelude.{ℕ, List, [], ◌∷◌}
use Rattle.std.specs.Int.Bits.{bit_xor}

-- k laid over d: as long as d; where k has ended d stands
unfoldable pub xorl : List ℕ → List ℕ → List ℕ
xorl [] k = []
xorl (a ∷ d) [] = a ∷ d
xorl (a ∷ d) (b ∷ k) = bit_xor a b ∷ xorl d k
