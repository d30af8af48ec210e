-- RFC 8439 2.5.2: the tag of "Cryptographic Forum Research Group".
use Rattle.std.specs.Prelude.{◌≡◌, refl, List, [], ◌∷◌, ℕ}
use Rattle.words.specs.Le.{num, le}
use Rattle.limbs.specs.Limbs.{p}
use Rattle.limbs.specs.Turns.{turn, turns}
use Rattle.poly1305.specs.Poly1305.{clamp, poly1305}

abbrev key : List ℕ
key = 133 ∷ 214 ∷ 190 ∷ 120 ∷ 87 ∷ 85 ∷ 109 ∷ 51 ∷ 127 ∷ 68 ∷ 82 ∷ 254 ∷ 66 ∷ 213 ∷ 6 ∷ 168 ∷ 1 ∷ 3 ∷ 128 ∷ 138 ∷ 251 ∷ 13 ∷ 178 ∷ 253 ∷ 74 ∷ 191 ∷ 246 ∷ 175 ∷ 65 ∷ 73 ∷ 245 ∷ 27 ∷ []

abbrev message : List ℕ
message = 67 ∷ 114 ∷ 121 ∷ 112 ∷ 116 ∷ 111 ∷ 103 ∷ 114 ∷ 97 ∷ 112 ∷ 104 ∷ 105 ∷ 99 ∷ 32 ∷ 70 ∷ 111 ∷ 114 ∷ 117 ∷ 109 ∷ 32 ∷ 82 ∷ 101 ∷ 115 ∷ 101 ∷ 97 ∷ 114 ∷ 99 ∷ 104 ∷ 32 ∷ 71 ∷ 114 ∷ 111 ∷ 117 ∷ 112 ∷ []

pub tag-vector : poly1305 key message ≡ 168 ∷ 6 ∷ 29 ∷ 193 ∷ 48 ∷ 81 ∷ 54 ∷ 198 ∷ 194 ∷ 43 ∷ 139 ∷ 175 ∷ 12 ∷ 1 ∷ 39 ∷ 169 ∷ []
unfolding poly1305 clamp turns turn p num le
tag-vector = refl
