-- The fixed texts of the lines, as bytes.
use Rattle.std.specs.Prelude.{ℕ, List, [], ◌∷◌}

-- `nuggets=`
abbrev pub t_nuggets : List ℕ
t_nuggets = 110 ∷ 117 ∷ 103 ∷ 103 ∷ 101 ∷ 116 ∷ 115 ∷ 61 ∷ []

-- ` moved=`
abbrev pub t_moved : List ℕ
t_moved = 32 ∷ 109 ∷ 111 ∷ 118 ∷ 101 ∷ 100 ∷ 61 ∷ []

-- ` left=`
abbrev pub t_left : List ℕ
t_left = 32 ∷ 108 ∷ 101 ∷ 102 ∷ 116 ∷ 61 ∷ []

-- ` flakes=`
abbrev pub t_flakes : List ℕ
t_flakes = 32 ∷ 102 ∷ 108 ∷ 97 ∷ 107 ∷ 101 ∷ 115 ∷ 61 ∷ []

-- ` share=`
abbrev pub t_share : List ℕ
t_share = 32 ∷ 115 ∷ 104 ∷ 97 ∷ 114 ∷ 101 ∷ 61 ∷ []

-- ` done=`
abbrev pub t_done : List ℕ
t_done = 32 ∷ 100 ∷ 111 ∷ 110 ∷ 101 ∷ 61 ∷ []

-- `refused=`
abbrev pub t_refused : List ℕ
t_refused = 114 ∷ 101 ∷ 102 ∷ 117 ∷ 115 ∷ 101 ∷ 100 ∷ 61 ∷ []

-- ` class=`
abbrev pub t_class : List ℕ
t_class = 32 ∷ 99 ∷ 108 ∷ 97 ∷ 115 ∷ 115 ∷ 61 ∷ []

-- `form`
abbrev pub t_form : List ℕ
t_form = 102 ∷ 111 ∷ 114 ∷ 109 ∷ []

-- `key`
abbrev pub t_key : List ℕ
t_key = 107 ∷ 101 ∷ 121 ∷ []

-- `altered`
abbrev pub t_altered : List ℕ
t_altered = 97 ∷ 108 ∷ 116 ∷ 101 ∷ 114 ∷ 101 ∷ 100 ∷ []

-- `request`
abbrev pub t_request : List ℕ
t_request = 114 ∷ 101 ∷ 113 ∷ 117 ∷ 101 ∷ 115 ∷ 116 ∷ []

-- `spent`
abbrev pub t_spent : List ℕ
t_spent = 115 ∷ 112 ∷ 101 ∷ 110 ∷ 116 ∷ []

-- ` place=head`
abbrev pub t_head : List ℕ
t_head = 32 ∷ 112 ∷ 108 ∷ 97 ∷ 99 ∷ 101 ∷ 61 ∷ 104 ∷ 101 ∷ 97 ∷ 100 ∷ []

-- ` place=record `
abbrev pub t_record : List ℕ
t_record = 32 ∷ 112 ∷ 108 ∷ 97 ∷ 99 ∷ 101 ∷ 61 ∷ 114 ∷ 101 ∷ 99 ∷ 111 ∷ 114 ∷ 100 ∷ 32 ∷ []

-- ` place=node `
abbrev pub t_node : List ℕ
t_node = 32 ∷ 112 ∷ 108 ∷ 97 ∷ 99 ∷ 101 ∷ 61 ∷ 110 ∷ 111 ∷ 100 ∷ 101 ∷ 32 ∷ []

-- ` place=flake `
abbrev pub t_flake : List ℕ
t_flake = 32 ∷ 112 ∷ 108 ∷ 97 ∷ 99 ∷ 101 ∷ 61 ∷ 102 ∷ 108 ∷ 97 ∷ 107 ∷ 101 ∷ 32 ∷ []
