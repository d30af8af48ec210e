-- Demand 3: "List every enciphering by nugget, keycount and flake. No entry comes twice."
use Rattle.std.specs.Prelude.{◌≡◌, Bool, List, [], ◌∷◌, ℕ, ◌+◌, eqb}
use Rattle.std.proofs.Math.Option.{Option, none, some}
use Rattle.std.proofs.Math.ListN.{get_elem?}
use Rattle.base.specs.Pick.{pick, both}
use Rattle.records.specs.Listing.{Entry}

-- the entry is one of flake f of nugget n
abbrev pub is_for : ℕ → ℕ → Entry → Bool
is_for n f e = both (eqb e.nugget n) (eqb e.flake f)

-- the entry says: nugget n, keycount k, flake f
abbrev pub says : ℕ → ℕ → ℕ → Entry → Bool
says n k f e = both (is_for n f e) (eqb e.keycount k)

-- 1 if the test holds
abbrev pub one : Bool → ℕ
one b = pick b 1 0

-- how often nugget n, keycount k, flake f is listed
unfoldable pub times : ℕ → ℕ → ℕ → List Entry → ℕ
times n k f [] = 0
times n k f (e ∷ es) = one (says n k f e) + times n k f es

-- a first choice, or where there is none a second
abbrev pub or_else : Option Entry → Option Entry → Option Entry
or_else none b = b
or_else (some e) b = some e

-- "the pad last listed": the last entry of flake f of nugget n
unfoldable pub last_of : ℕ → ℕ → List Entry → Option Entry
last_of n f [] = none
last_of n f (e ∷ es) = or_else (last_of n f es) (pick (is_for n f e) (some e) none)

-- two entries by the same nugget, keycount and flake, whatever the secret
pub record SameEntry (a b : Entry) : Type 0 where
  pub nuggets : a.nugget ≡ b.nugget
  pub keycounts : a.keycount ≡ b.keycount
  pub flakes : a.flake ≡ b.flake

-- "No entry comes twice.": two places of the list with entries alike are one place
unfoldable pub NoneTwice : List Entry → Type 0
NoneTwice l = (i j : ℕ) (a b : Entry) → get_elem? l i ≡ some a → get_elem? l j ≡ some b → SameEntry a b → i ≡ j
