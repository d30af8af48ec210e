-- Entries that are counted once stand at one place.
use mathlib.Core.Path.{◌≡◌, refl, ap, sym}
use mathlib.Core.Bool.{true}
use mathlib.Core.Option.{some, some-ne-none}
use mathlib.Core.List.{List, [], ◌∷◌}
use Prim.Native.Nat.{ℕ, zero, suc, ◌≤◌}
use native.Mathlib.Omega.{arith}
use lib.ListN.{get_elem?}
use borrow.Author.Tests.{eq-eqb}
use Rattle.records.specs.Listing.{Entry}
use Rattle.ledger.specs.Listing.{says, one, times, SameEntry, NoneTwice}

-- an entry says what one alike says
says-alike : (a b : Entry) → SameEntry a b → says a.nugget a.keycount a.flake b ≡ true
says-alike a b h =
    rw (
      eq-eqb b.nugget a.nugget (sym h.nuggets),
      eq-eqb b.flake a.flake (sym h.flakes),
      eq-eqb b.keycount a.keycount (sym h.keycounts),
    )

-- an entry that stands in the list is counted
pub counted : (l : List Entry) (i : ℕ) (a b : Entry) → get_elem? l i ≡ some b → SameEntry a b → 1 ≤ times a.nugget a.keycount a.flake l
unfolding times
counted [] i a b e h = absurd (some-ne-none b (sym e))
counted (x ∷ l) zero a b e h = let q : x ≡ b = cc in rw (q, says-alike a b h) (omega arith)
counted (x ∷ l) (suc i) a b e h = omega (arith, counted l i a b e h)

-- a first entry that stands again further on is counted twice
again : (x : Entry) (l : List Entry) (j : ℕ) (a b : Entry) → x ≡ a → get_elem? l j ≡ some b → SameEntry a b
    → times a.nugget a.keycount a.flake (x ∷ l) ≤ 1 → ⊥
unfolding times
again x l j a b q e h most =
    let self : SameEntry a a = record { nuggets = refl; keycounts = refl; flakes = refl } in
    let first : one (says a.nugget a.keycount a.flake x) ≡ 1 = rw (q, says-alike a a self) in
    omega (arith, first, counted l j a b e h)

alike-back : (a b : Entry) → SameEntry a b → SameEntry b a
alike-back a b h = record { nuggets = sym h.nuggets; keycounts = sym h.keycounts; flakes = sym h.flakes }

-- what is counted at most once stands at no two places
pub none_twice : (l : List Entry) → ((n k f : ℕ) → times n k f l ≤ 1) → NoneTwice l
unfolding NoneTwice times
none_twice [] most i j a b e d h = absurd (some-ne-none a (sym e))
none_twice (x ∷ l) most zero zero a b e d h = refl
none_twice (x ∷ l) most zero (suc j) a b e d h = absurd (again x l j a b (cc) d h (most a.nugget a.keycount a.flake))
none_twice (x ∷ l) most (suc i) zero a b e d h = absurd (again x l i b a (cc) e (alike-back a b h) (most b.nugget b.keycount b.flake))
none_twice (x ∷ l) most (suc i) (suc j) a b e d h = ap suc (none_twice l (λ n k f. omega (arith, most n k f)) i j a b e d h)
