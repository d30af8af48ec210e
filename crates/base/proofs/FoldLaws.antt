-- Folds join, a test of every element is a rule at each place, and the test of equality is equality.
use mathlib.Core.Path.{◌≡◌, refl, ap₂}
use mathlib.Core.Bool.{Bool, true, false}
use mathlib.Core.List.{List, [], ◌∷◌, ◌++◌}
use Prim.Native.Nat.{ℕ, suc, ◌<◌}
use native.Mathlib.Omega.{arith}
use lib.Dec.{eqb}
use lib.ListN.{length, get_or, drop}
use lib.Seq.{drop-cons}
use borrow.Author.Tests.{eqb-true, eq-eqb, ne_eqb}
use Rattle.base.specs.Pick.{both}
use Rattle.base.specs.Lists.{fold, same}
use Rattle.base.proofs.PickLaws.{both_left, both_right, both-on}

-- two pieces one after the other are the joined piece
pub fold-append : {S A : Type 0} (f : S → A → S) (s : S) (a b : List A) → fold f s (a ++ b) ≡ fold f (fold f s a) b
unfolding fold
fold-append f s [] b = refl
fold-append f s (x ∷ a) b = fold-append f (f s x) a b

-- lists that pass the test of equality are equal, and equal lists pass
pub same_true : (a b : List ℕ) → same a b ≡ true → a ≡ b
unfolding same
same_true [] [] e = refl
same_true [] (y ∷ b) e = absurd (let z : ◌≡◌ {A = Bool} false true = e in let w : ◌≡◌ {A = ℕ} 0 1 = cc in omega arith)
same_true (x ∷ a) [] e = absurd (let z : ◌≡◌ {A = Bool} false true = e in let w : ◌≡◌ {A = ℕ} 0 1 = cc in omega arith)
same_true (x ∷ a) (y ∷ b) e =
    ap₂ (λ (z : ℕ) (l : List ℕ). z ∷ l) (eqb-true x y (both_left (eqb x y) (same a b) e)) (same_true a b (both_right (eqb x y) (same a b) e))

pub same_refl : (a : List ℕ) → same a a ≡ true
unfolding same
same_refl [] = refl
same_refl (x ∷ a) = both-on (eq-eqb x x refl) (same_refl a)

-- a loop that compares: equal so far, and the next elements
pub same_next : (a b : List ℕ) (i : ℕ) → i < length a → i < length b → get_or a i 0 ≡ get_or b i 0 → same (drop (suc i) a) (drop (suc i) b) ≡ same (drop i a) (drop i b)
unfolding same
same_next a b i h k e = rw (drop-cons a i 0 h, drop-cons b i 0 k, eq-eqb (get_or a i 0) (get_or b i 0) e)

pub same-differ : (a b : List ℕ) (i : ℕ) → i < length a → i < length b → (get_or a i 0 ≡ get_or b i 0 → ⊥) → same (drop i a) (drop i b) ≡ false
unfolding same
same-differ a b i h k e = rw (drop-cons a i 0 h, drop-cons b i 0 k, ne_eqb (get_or a i 0) (get_or b i 0) e)

-- lists of different lengths differ
pub same_lengths : (a b : List ℕ) → (length a ≡ length b → ⊥) → same a b ≡ false
unfolding same
same_lengths [] [] e = absurd (e refl)
same_lengths [] (y ∷ b) e = refl
same_lengths (x ∷ a) [] e = refl
same_lengths (x ∷ a) (y ∷ b) e = go (eqb x y) (same_lengths a b (λ q. e (omega arith)))
  where
    go : (t : Bool) → same a b ≡ false → both t (same a b) ≡ false
    go true h = h
    go false h = refl
