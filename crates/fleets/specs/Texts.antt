-- The fixed texts of the fleet's line, as bytes.
use Rattle.std.specs.Prelude.{ℕ, List, [], ◌∷◌}

-- `drives=`
abbrev pub t_drives : List ℕ
t_drives = 100 ∷ 114 ∷ 105 ∷ 118 ∷ 101 ∷ 115 ∷ 61 ∷ []

-- ` last=`
abbrev pub t_last : List ℕ
t_last = 32 ∷ 108 ∷ 97 ∷ 115 ∷ 116 ∷ 61 ∷ []

-- `open=`
abbrev pub t_open : List ℕ
t_open = 111 ∷ 112 ∷ 101 ∷ 110 ∷ 61 ∷ []
