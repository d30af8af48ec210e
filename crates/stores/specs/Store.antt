-- A store, and a list of them laid over a volume.
use Rattle.std.specs.Prelude.{ℕ, List, [], ◌∷◌}
use Rattle.std.proofs.lemmas.List.Edits.{sets}

-- these bytes from this place on
pub record Store : Type 0 where
  pub at : ℕ
  pub bytes : List ℕ

abbrev pub store : ℕ → List ℕ → Store
store a b = record { at = a; bytes = b }

-- the first first
unfoldable pub applied : List Store → List ℕ → List ℕ
applied [] v = v
applied (x ∷ xs) v = applied xs (sets v x.at x.bytes)
