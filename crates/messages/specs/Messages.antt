-- Document 01, "Keys, pads and hashes": "The first message byte is the letter shown." What BLAKE2s is given as its message,
-- byte for byte; the key stands beside it.
use Rattle.std.specs.Prelude.{List, ◌∷◌, ◌++◌, ℕ, Bool, eqb}
use Rattle.base.specs.Pick.{pick}
use Rattle.words.specs.Le.{le}

-- the letters N, F, G, O, H, L and T as bytes
abbrev pub letter_n : ℕ
letter_n = 78

abbrev pub letter_f : ℕ
letter_f = 70

abbrev pub letter_g : ℕ
letter_g = 71

abbrev pub letter_o : ℕ
letter_o = 79

abbrev pub letter_h : ℕ
letter_h = 72

abbrev pub letter_l : ℕ
letter_l = 76

abbrev pub letter_t : ℕ
letter_t = 84

-- "`N`, salt, nugget (4 bytes)"
abbrev pub nugget_message : List ℕ → ℕ → List ℕ
nugget_message salt n = letter_n ∷ (salt ++ le 4 n)

-- "`F`, flake (2), keycount (8)"; in version 2 "The tag key's letter becomes `G`."
abbrev pub tag_message : ℕ → ℕ → ℕ → List ℕ
tag_message letter f k = letter ∷ (le 2 f ++ le 8 k)

-- "version 1", by its number
abbrev pub is_first : ℕ → Bool
is_first version = eqb version 1

unfoldable pub tag_letter : ℕ → ℕ
tag_letter version = pick (is_first version) letter_f letter_g

-- "`O`, salt, head epoch (2)"
abbrev pub check_message : List ℕ → ℕ → List ℕ
check_message salt epoch = letter_o ∷ (salt ++ le 2 epoch)

-- "`H`, head bytes 0-71, node 1"
abbrev pub seal_message : List ℕ → List ℕ → List ℕ
seal_message front node = letter_h ∷ (front ++ node)

-- "`L`, nugget (4), the 18 record bytes, the nugget's P tags"; in version 2 a record has 26
abbrev pub leaf_message : ℕ → List ℕ → List ℕ → List ℕ
leaf_message n record_bytes_lem tags = (letter_l ∷ le 4 n) ++ (record_bytes_lem ++ tags)

-- "`T`, node 2i, node 2i + 1"
abbrev pub inner_message : List ℕ → List ℕ → List ℕ
inner_message left right = letter_t ∷ (left ++ right)
