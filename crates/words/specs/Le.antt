-- Document 01: "All stored numbers are little-endian."
use Rattle.std.specs.Prelude.{ℕ, zero, suc, ◌+◌, ◌*◌, ◌/◌, ◌%◌, ◌<◌, List, [], ◌∷◌, ◌++◌, get_or}
use Rattle.base.specs.Lists.{part, tab}

-- the number whose bytes these are, lowest first
unfoldable pub num : List ℕ → ℕ
num [] = 0
num (b ∷ l) = b + 256 * num l

-- the k lowest bytes of x, lowest first
unfoldable pub le : ℕ → ℕ → List ℕ
le zero x = []
le (suc k) x = x % 256 ∷ le k (x / 256)

-- words of 32 bits one by one, each lowest byte first
unfoldable pub serialised : List ℕ → List ℕ
serialised [] = []
serialised (x ∷ w) = le 4 x ++ serialised w

-- a list of bytes; past its end a place reads as 0
abbrev pub Bytes : List ℕ → Type 0
Bytes l = (i : ℕ) → get_or l i 0 < 256

-- the first n words of 32 bits
unfoldable pub words_of : ℕ → List ℕ → List ℕ
words_of n l = tab n (λ i. num (part (4 * i) 4 l))
