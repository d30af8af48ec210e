-- The list of a journal's flakes: how often a flake is on it, and that each number is short.
use mathlib.Core.Path.{◌≡◌, refl, ◌∙◌}
use mathlib.Core.Bool.{Bool, true, false}
use mathlib.Core.Logic.{◌⊎◌, inl, inr}
use mathlib.Core.List.{List, [], ◌∷◌, ◌++◌}
use Prim.Native.Nat.{ℕ, zero, suc, ◌+◌, ◌^◌, ◌<◌, ◌≤◌}
use native.Mathlib.Omega.{arith}
use lib.Dec.{eqb, ltb}
use borrow.Author.Tests.{ne_eqb, eqb-true, eqb-false, lt-ltb}
use Rattle.base.specs.Pick.{pick}
use Rattle.base.specs.Lists.{every}
use Rattle.base.proofs.PickLaws.{told, both_left, both_right, both-on}
use Rattle.records.specs.Journal.{bit}
use Rattle.pages.specs.Page.{present_flakes}
use Rattle.auditor.specs.Reading.{times_listed}
use Rattle.auditor.proofs.ReadLaws.{short}

times-append : (f : ℕ) (a b : List ℕ) → times_listed f (a ++ b) ≡ times_listed f a + times_listed f b
unfolding times_listed
times-append f [] b = omega arith
times-append f (x ∷ a) b = rw (times-append f a b) (omega arith)

-- of one flake more
times-one : (f p : ℕ) (b : Bool) → times_listed f (pick b (p ∷ []) []) ≡ pick (eqb f p) (pick b 1 0) 0
unfolding times_listed
times-one f p true = go (eqb f p)
  where
    go : (x : Bool) → pick x 1 0 + 0 ≡ pick x 1 0
    go true = refl
    go false = refl
times-one f p false = go (eqb f p)
  where
    go : (x : Bool) → ◌≡◌ {A = ℕ} 0 (pick x 0 0)
    go true = refl
    go false = refl

pub times_above : (p j f : ℕ) → p ≤ f → times_listed f (present_flakes p j) ≡ 0
unfolding present_flakes times_listed
times_above zero j f h = refl
times_above (suc p) j f h =
    times-append f (present_flakes p j) (pick (bit j p) (p ∷ []) [])
    ∙ rw (times_above p j f (omega arith), times-one f p (bit j p), ne_eqb f p (λ e. omega (arith, e)))

-- "Bit f of a journal (lowest first) says that flake f is present": it is on the list once, or not at all
pub times-present : (p j f : ℕ) → f < p → times_listed f (present_flakes p j) ≡ pick (bit j f) 1 0
unfolding present_flakes
times-present zero j f h = absurd (omega arith)
times-present (suc p) j f h = go (told (eqb f p)) (λ l. times-present p j f l)
  where
    go : (eqb f p ≡ true) ⊎ (eqb f p ≡ false) → (f < p → times_listed f (present_flakes p j) ≡ pick (bit j f) 1 0)
        → times_listed f (present_flakes p j ++ pick (bit j p) (p ∷ []) []) ≡ pick (bit j f) 1 0
    go (inl e) again =
        let same : f ≡ p = eqb-true f p e in
        times-append f (present_flakes p j) (pick (bit j p) (p ∷ []) [])
        ∙ rw (times_above p j f (omega arith), times-one f p (bit j p), e, same) (omega arith)
    go (inr e) again =
        times-append f (present_flakes p j) (pick (bit j p) (p ∷ []) [])
        ∙ rw (again (omega (arith, eqb-false f p e)), times-one f p (bit j p), e) (omega arith)

short-append : (a b : List ℕ) → short a ≡ true → short b ≡ true → short (a ++ b) ≡ true
unfolding every
short-append [] b p q = q
short-append (x ∷ a) b p q =
    both-on (both_left (ltb x (10 ^ 10)) _ p) (short-append a b (both_right (ltb x (10 ^ 10)) _ p) q)

pub short-flakes : (p j : ℕ) → p ≤ 10 ^ 10 → short (present_flakes p j) ≡ true
unfolding present_flakes every
short-flakes zero j h = refl
short-flakes (suc p) j h = short-append (present_flakes p j) (pick (bit j p) (p ∷ []) []) (short-flakes p j (omega arith)) (go (bit j p))
  where
    go : (b : Bool) → every (λ f. ltb f (10 ^ 10)) (pick b (p ∷ []) []) ≡ true
    go true = both-on (lt-ltb p (10 ^ 10) (omega arith)) refl
    go false = refl
