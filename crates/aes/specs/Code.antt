-- What the code keeps and looks up: a block under way is four words, one a column.
use Rattle.std.specs.Prelude.{ℕ, ◌+◌, ◌*◌, ◌/◌, ◌%◌, List, [], ◌∷◌, get_or}
use Rattle.std.specs.Int.Bits.{bit_xor}
use Rattle.base.specs.Lists.{part}
use Rattle.words.specs.Word.{rotl}
use Rattle.words.specs.Le.{num, serialised}
use Rattle.field.specs.Field.{sum4}
use Rattle.aes.specs.declared.Columns.{Columns}

-- the sixteen bytes of four columns
unfoldable pub state_bytes : Columns → List ℕ
state_bytes s = serialised (s.a ∷ s.b ∷ s.c ∷ s.d ∷ [])

-- the four columns of sixteen bytes
abbrev pub state_columns : List ℕ → Columns
state_columns s = record { a = num (part 0 4 s); b = num (part 4 4 s); c = num (part 8 4 s); d = num (part 12 4 s) }

-- column by column
abbrev pub sum_of : Columns → Columns → Columns
sum_of s k = record { a = bit_xor s.a k.a; b = bit_xor s.b k.b; c = bit_xor s.c k.c; d = bit_xor s.d k.d }

-- the words of round n
abbrev pub key_columns : List ℕ → ℕ → Columns
key_columns w n = record { a = get_or w (4 * n) 0; b = get_or w (4 * n + 1) 0; c = get_or w (4 * n + 2) 0; d = get_or w (4 * n + 3) 0 }

-- the entries at the first byte of a, the second of b, the third of c and the fourth of d, each turned to its row, added
unfoldable pub looked_up : List ℕ → ℕ → ℕ → ℕ → ℕ → ℕ
looked_up t a b c d =
    sum4 (get_or t (a % 256) 0) (rotl 8 (get_or t (b / 256 % 256) 0)) (rotl 16 (get_or t (c / 256 / 256 % 256) 0))
    (rotl 24 (get_or t (d / 256 / 256 / 256 % 256) 0))

-- the word whose bytes are f of these four
unfoldable pub rows_by : (ℕ → ℕ) → ℕ → ℕ → ℕ → ℕ → ℕ
rows_by f a b c d = num (f (a % 256) ∷ f (b / 256 % 256) ∷ f (c / 256 / 256 % 256) ∷ f (d / 256 / 256 / 256 % 256) ∷ [])
