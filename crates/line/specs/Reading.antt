-- How lines are read: from their bytes alone, with no knowledge of how they were made.
use Rattle.std.specs.Prelude.{ℕ, zero, suc, ◌+◌, ◌-◌, ◌*◌, List, [], ◌∷◌, eqb}
use Rattle.base.specs.Pick.{pick}

-- what stands before the first byte c; all of it if there is none
unfoldable pub up_to : ℕ → List ℕ → List ℕ
up_to c [] = []
up_to c (b ∷ l) = pick (eqb b c) [] (b ∷ up_to c l)

-- what stands behind the first byte c
unfoldable pub past : ℕ → List ℕ → List ℕ
past c [] = []
past c (b ∷ l) = pick (eqb b c) l (past c l)

-- the text without its first k lines
unfoldable pub lines_from : ℕ → List ℕ → List ℕ
lines_from zero t = t
lines_from (suc k) t = lines_from k (past 10 t)

-- line k, from 0 on, without its newline
abbrev pub line_at : ℕ → List ℕ → List ℕ
line_at k t = up_to 10 (lines_from k t)

-- field k of a line: from behind its `=` to the next space
unfoldable pub field_at : ℕ → List ℕ → List ℕ
field_at zero l = up_to 32 (past 61 l)
field_at (suc k) l = field_at k (past 32 l)

-- the number that decimal digits say, behind those already read
unfoldable pub value_from : ℕ → List ℕ → ℕ
value_from a [] = a
value_from a (b ∷ l) = value_from (a * 10 + (b - 48)) l

abbrev pub decimal_value : List ℕ → ℕ
decimal_value l = value_from 0 l
