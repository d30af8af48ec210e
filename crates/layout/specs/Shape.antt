-- Document 01, "Numbers".
use Rattle.std.specs.Prelude.{ℕ, zero, suc, ◌%◌, ◌^◌, Bool, leb, eqb}
use Rattle.base.specs.Pick.{pick, both, either}
use Rattle.layout.specs.declared.Shape.{Shape}

-- N, P and F under a version and a cipher
abbrev pub shape_as : ℕ → ℕ → ℕ → ℕ → ℕ → Shape
shape_as version cipher n p f = record { n = n; p = p; f = f; version = version; cipher = cipher }

-- and under version 1 and ChaCha20
abbrev pub shape : ℕ → ℕ → ℕ → Shape
shape n p f = shape_as 1 0 n p f

-- "Nuggets N: 1 to 16,384. Flakes per nugget P: 1 to 64. Flake size F: 64 to 4,096, a multiple of 64."
unfoldable pub sized : Shape → Bool
sized s =
    both (leb 1 s.n)
    (both (leb s.n 16384)
    (both (leb 1 s.p) (both (leb s.p 64) (both (leb 64 s.f) (both (leb s.f 4096) (eqb (s.f % 64) 0))))))

-- "version 1"
abbrev pub is_one : Shape → Bool
is_one s = eqb s.version 1

-- that version, or document 02's, Item 4: "Version 2 of the volume"
unfoldable pub known_version : ℕ → Bool
known_version version = either (eqb version 1) (eqb version 2)

-- Item 8: "16 for AES, 0 for ChaCha20"
unfoldable pub known_cipher : ℕ → Bool
known_cipher cipher = either (eqb cipher 0) (eqb cipher 16)

-- such a version and such a cipher
unfoldable pub known : Shape → Bool
known s = both (known_version s.version) (known_cipher s.cipher)

-- the numbers within their limits, the version and the cipher known
unfoldable pub in_limits : Shape → Bool
in_limits s = both (sized s) (known s)

-- how many bytes a record has: in version 1 one mask stands for the flakes spent and held, in version 2 a mask for each
unfoldable pub width_of : Shape → ℕ
width_of s = pick (is_one s) 18 26

-- the smallest m from the given one on whose power of two is not below n, in k tries
unfoldable pub height_from : ℕ → ℕ → ℕ → ℕ
height_from zero m n = m
height_from (suc k) m n = pick (leb n (2 ^ m)) m (height_from k (suc m) n)

unfoldable pub height_of : ℕ → ℕ
height_of n = height_from 32 0 n

-- "L is the smallest power of two not below N."
abbrev pub leaves : ℕ → ℕ
leaves n = 2 ^ height_of n

-- a number of a shape; a shape out of limits has none, and answers 0
abbrev pub within : Shape → ℕ → ℕ
within s x = pick (in_limits s) x 0
