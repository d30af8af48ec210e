-- Lists made by an index, parts of a list, and folds from the front.
use Rattle.std.specs.Prelude.{ℕ, zero, suc, Bool, true, false, List, [], ◌∷◌, ◌++◌, eqb, take, drop}
use Rattle.base.specs.Pick.{both}

-- f 0, f 1, .. , f (n - 1)
unfoldable pub tab : {A : Type 0} → ℕ → (ℕ → A) → List A
tab zero f = []
tab (suc n) f = tab n f ++ (f n ∷ [])

-- the n elements from place at on
abbrev pub part : {A : Type 0} → ℕ → ℕ → List A → List A
part at n l = take n (drop at l)

-- the state after each element of the list in turn
unfoldable pub fold : {S A : Type 0} → (S → A → S) → S → List A → S
fold f s [] = s
fold f s (a ∷ l) = fold f (f s a) l

-- the test holds of each element
unfoldable pub every : {A : Type 0} → (A → Bool) → List A → Bool
every f [] = true
every f (a ∷ l) = both (f a) (every f l)

-- the two lists of numbers are equal, as a test
unfoldable pub same : List ℕ → List ℕ → Bool
same [] [] = true
same [] (b ∷ m) = false
same (a ∷ l) [] = false
same (a ∷ l) (b ∷ m) = both (eqb a b) (same l m)
