-- The shapes that the documents name as out of limits, by computation.
use mathlib.Core.Path.{◌≡◌, refl}
use mathlib.Core.Bool.{Bool, true, not}
use mathlib.Core.List.{[], ◌∷◌}
use Rattle.base.specs.Lists.{every}
use Rattle.layout.specs.Shape.{shape_as, shape, sized, known_version, known_cipher, known, in_limits}
use Rattle.layout.specs.declared.Shape.{Shape}

-- "N 16,385, F 96, F 4,160, P 65", none of anything, the largest of each, and versions and ciphers that there aren't
abbrev pub out_of : Shape → Bool
out_of s = not (in_limits s)

pub refused : every out_of
    (shape 16385 2 64 ∷ shape 3 2 96 ∷ shape 3 2 4160 ∷ shape 3 65 64 ∷ shape 0 2 64 ∷ shape 3 0 64 ∷ shape 3 2 0 ∷ shape 4294967295 2 64
    ∷ shape 3 4294967295 64 ∷ shape 3 2 4294967295 ∷ shape_as 0 0 3 2 64 ∷ shape_as 3 0 3 2 64 ∷ shape_as 65535 0 3 2 64
    ∷ shape_as 1 1 3 2 64 ∷ shape_as 1 8 3 2 64 ∷ shape_as 1 17 3 2 64 ∷ shape_as 2 32 3 2 64 ∷ shape_as 2 255 3 2 64 ∷ []) ≡ true
unfolding every in_limits sized known known_version known_cipher
refused = refl
