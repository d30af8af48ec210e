-- The fixed texts of the page, as bytes.
use Rattle.std.specs.Prelude.{ℕ, List, [], ◌∷◌}

-- `nugget=`
abbrev pub t_nugget : List ℕ
t_nugget = 110 ∷ 117 ∷ 103 ∷ 103 ∷ 101 ∷ 116 ∷ 61 ∷ []

-- ` key=`
abbrev pub t_key_is : List ℕ
t_key_is = 32 ∷ 107 ∷ 101 ∷ 121 ∷ 61 ∷ []

-- `new`
abbrev pub t_new : List ℕ
t_new = 110 ∷ 101 ∷ 119 ∷ []

-- `old`
abbrev pub t_old : List ℕ
t_old = 111 ∷ 108 ∷ 100 ∷ []

-- `present`
abbrev pub t_present : List ℕ
t_present = 112 ∷ 114 ∷ 101 ∷ 115 ∷ 101 ∷ 110 ∷ 116 ∷ []

-- ` epoch=`
abbrev pub t_epoch : List ℕ
t_epoch = 32 ∷ 101 ∷ 112 ∷ 111 ∷ 99 ∷ 104 ∷ 61 ∷ []

-- ` keycount=`
abbrev pub t_keycount : List ℕ
t_keycount = 32 ∷ 107 ∷ 101 ∷ 121 ∷ 99 ∷ 111 ∷ 117 ∷ 110 ∷ 116 ∷ 61 ∷ []

-- `counter=`
abbrev pub t_counter : List ℕ
t_counter = 99 ∷ 111 ∷ 117 ∷ 110 ∷ 116 ∷ 101 ∷ 114 ∷ 61 ∷ []

-- `old=`
abbrev pub t_secret : List ℕ
t_secret = 111 ∷ 108 ∷ 100 ∷ 61 ∷ []

-- `needed`
abbrev pub t_needed : List ℕ
t_needed = 110 ∷ 101 ∷ 101 ∷ 100 ∷ 101 ∷ 100 ∷ []

-- `free`
abbrev pub t_free : List ℕ
t_free = 102 ∷ 114 ∷ 101 ∷ 101 ∷ []

-- `-`
abbrev pub t_none : List ℕ
t_none = 45 ∷ []
