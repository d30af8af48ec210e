-- A keystream in pieces of 64 bytes, one after the other, laid over a text: what every cipher here does.
use Rattle.std.specs.Prelude.{ℕ, zero, suc, ◌+◌, ◌/◌, List, [], ◌++◌, length}
use Rattle.words.specs.Xor.{xorl}

-- n pieces from counter c on
unfoldable pub pieces : (ℕ → List ℕ) → (ℕ → ℕ) → ℕ → ℕ → List ℕ
pieces piece next c zero = []
pieces piece next c (suc n) = piece c ++ pieces piece next (next c) n

-- as many pieces as the text takes
unfoldable pub laid_by : (ℕ → List ℕ) → (ℕ → ℕ) → ℕ → List ℕ → List ℕ
laid_by piece next c text = xorl text (pieces piece next c ((length text + 63) / 64))
