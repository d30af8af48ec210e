-- The flakes and tags that a change stores: by the list of its encipherings, and by nothing else.
use Rattle.std.specs.Prelude.{ℕ, ◌+◌, ◌-◌, List, [], ◌∷◌, leb, ltb, length, get_or}
use Rattle.std.proofs.lemmas.List.Edits.{sets}
use Rattle.base.specs.Pick.{pick, both}
use Rattle.base.specs.Lists.{tab}
use Rattle.layout.specs.declared.Shape.{Shape}
use Rattle.layout.specs.Parts.{flake_at, tag_at}
use Rattle.layout.specs.Spots.{offset_at}
use Rattle.records.specs.Listing.{Entry}
use Rattle.keys.specs.declared.Lock.{Lock}
use Rattle.keys.specs.Pads.{under}
use Rattle.keys.specs.Tags.{tag_of}
use Rattle.nuggets.specs.Nugget.{lock_of}

-- the byte at offset a once these bytes are written from offset o on
abbrev pub over : ℕ → List ℕ → ℕ → ℕ → ℕ
over o bytes a was = pick (both (leb o a) (ltb a (o + length bytes))) (get_or bytes (a - o) 0) was

-- the new contents of flake f of nugget n: what it held, with the written bytes laid over
unfoldable pub written : Shape → ℕ → List ℕ → ℕ → ℕ → List ℕ → List ℕ
written s o bytes n f was = tab s.f (λ b. over o bytes (offset_at s n f b) (get_or was b 0))

-- "Stored flake = contents xor pad. Tag = Poly1305 under the tag key over the stored flake."
unfoldable pub laid_flake : Shape → Lock → ℕ → List ℕ → List ℕ → List ℕ
laid_flake s lock f contents v =
    let stored = under lock f s.f contents in
    sets (sets v (flake_at s lock.number f) stored) (tag_at s lock.number f) (tag_of lock f stored)

-- an enciphering: its flake becomes its new contents under its pad
unfoldable pub laid_entry : Shape → List ℕ → (ℕ → ℕ → List ℕ) → Entry → List ℕ → List ℕ
laid_entry s salt new e v = laid_flake s (lock_of s salt e) e.flake (new e.nugget e.flake) v

-- the encipherings one after another
unfoldable pub laid : Shape → List ℕ → (ℕ → ℕ → List ℕ) → List Entry → List ℕ → List ℕ
laid s salt new [] v = v
laid s salt new (e ∷ es) v = laid s salt new es (laid_entry s salt new e v)
