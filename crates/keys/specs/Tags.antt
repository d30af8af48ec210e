-- Document 01: "Tag = Poly1305 under the tag key over the stored flake." In version 2, document 02: "the tag is over nugget (4), flake (2)
-- and keycount (8) as associated data, then the stored flake, padded and followed by the two lengths as RFC 8439 section 2.8 lays them out."
use Rattle.std.specs.Prelude.{◌≡◌, false, List, [], ◌∷◌, ◌++◌, ℕ, ◌-◌, ◌%◌, ◌^◌, ◌<◌, length, replicate}
use Rattle.base.specs.Pick.{pick}
use Rattle.words.specs.Le.{le}
use Rattle.messages.specs.Messages.{is_first}
use Rattle.poly1305.specs.Poly1305.{poly1305}
use Rattle.keys.specs.declared.Lock.{Lock}
use Rattle.keys.specs.Keys.{tag_key}
use Rattle.keys.specs.Pads.{Size}

-- RFC 8439 2.8: behind each of the two go zeros, up to a multiple of 16 bytes; whole blocks come before both
unfoldable pub pad16 : List ℕ → List ℕ
pad16 l = replicate ((16 - length l % 16) % 16) 0

-- 2.8: the associated data and its padding, the text and its padding, and how long the two are, in 8 bytes each
unfoldable pub laid_out : List ℕ → List ℕ → List ℕ
laid_out ad text = (ad ++ pad16 ad) ++ (text ++ (pad16 text ++ (le 8 (length ad) ++ le 8 (length text))))

-- "nugget (4), flake (2) and keycount (8) as associated data"
abbrev pub named : Lock → ℕ → List ℕ
named lock f = le 4 lock.number ++ (le 2 f ++ le 8 lock.keycount)

-- the bytes that Poly1305 is given
unfoldable pub covered : Lock → ℕ → List ℕ → List ℕ
covered lock f stored = pick (is_first lock.version) stored (laid_out (named lock f) stored)

unfoldable pub tag_of : Lock → ℕ → List ℕ → List ℕ
tag_of lock f stored = poly1305 (tag_key lock f) (covered lock f stored)

-- Laid-out bytes tell what was laid out. This and what follows is proved, under the same name in small letters, in proofs/LaidOut.antt.
abbrev pub LaidOutTold : Type 0
LaidOutTold =
    (a b t u : List ℕ) → length a < 2 ^ 64 → length t < 2 ^ 64 → length b < 2 ^ 64 → length u < 2 ^ 64
    → laid_out a t ≡ laid_out b u → (a ≡ b) × (t ≡ u)

-- Of a flake they are 14 bytes and 2 zeros, the stored flake, and 14 and F.
abbrev pub LaidOutEven : Type 0
LaidOutEven =
    (lock : Lock) (f size : ℕ) (stored : List ℕ) → Size size → length stored ≡ size
    → laid_out (named lock f) stored ≡ named lock f ++ ((0 ∷ 0 ∷ []) ++ (stored ++ (le 8 14 ++ le 8 size)))

-- each part of what a tag of version 2 names has its width
pub record Names (lock : Lock) (f : ℕ) (stored : List ℕ) : Type 0 where
  pub later : is_first lock.version ≡ false
  pub nugget : lock.number < 2 ^ 32
  pub flake : f < 2 ^ 16
  pub keycount : lock.keycount < 2 ^ 64
  pub size : length stored < 2 ^ 64

-- the same nugget, flake and keycount, and the same stored flake
pub record SameNamed (a b : Lock) (f g : ℕ) (l m : List ℕ) : Type 0 where
  pub nugget : a.number ≡ b.number
  pub flake : f ≡ g
  pub keycount : a.keycount ≡ b.keycount
  pub stored : l ≡ m

-- "our key-management team wants the tag itself to name what it covers": of version 2, bytes that are equal name the same
abbrev pub TagNames : Type 0
TagNames =
    (a b : Lock) (f g : ℕ) (stored other : List ℕ) → Names a f stored → Names b g other
    → covered a f stored ≡ covered b g other → SameNamed a b f g stored other
