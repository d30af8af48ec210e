-- Steps past a test, and a test taken apart.
use mathlib.Core.Path.{◌≡◌, refl, sym, ◌∙◌}
use mathlib.Core.Bool.{Bool, true, false}
use mathlib.Core.Logic.{◌⊎◌, inl, inr}
use Rattle.base.specs.Pick.{pick, both, either}
use Prim.Native.Nat.{ℕ, ◌≤◌, max}
use native.Mathlib.Omega.{arith}
use native.Mathlib.Nat.{max-eq_left, max-eq_right}
use lib.Dec.{leb}
use borrow.Author.Tests.{leb-true, leb-false}

-- past a test that held
pub yes : {A : Type 0} {b : Bool} {x r : A} (y : A) → b ≡ true → x ≡ r → pick b x y ≡ r
yes y h e = rw h e

-- past a test that did not
pub no : {A : Type 0} {b : Bool} {y r : A} (x : A) → b ≡ false → y ≡ r → pick b x y ≡ r
no x h e = rw h e

pub told : (x : Bool) → (x ≡ true) ⊎ (x ≡ false)
told true = inl refl
told false = inr refl

pub both_left : (a b : Bool) → both a b ≡ true → a ≡ true
both_left true b e = refl
both_left false b e = e

pub both_right : (a b : Bool) → both a b ≡ true → b ≡ true
both_right true b e = e
both_right false b e = cc

-- past the first of two tests that held, and at one that did not
pub both-on : {a b r : Bool} → a ≡ true → b ≡ r → both a b ≡ r
both-on h e = rw h e

pub both_off : {a : Bool} (b : Bool) → a ≡ false → both a b ≡ false
both_off b h = rw h refl

pub both_no : (a : Bool) → both a false ≡ false
both_no true = refl
both_no false = refl

-- no test both holds and fails
pub clash : {b : Bool} → b ≡ true → b ≡ false → ⊥
clash p q = let e : ◌≡◌ {A = Bool} true false = sym p ∙ q in let w : ◌≡◌ {A = ℕ} 0 1 = cc in omega arith

pub either_right : (a : Bool) {b : Bool} → b ≡ true → either a b ≡ true
either_right true e = refl
either_right false e = e

pub either_left : {a : Bool} (b : Bool) → a ≡ true → either a b ≡ true
either_left b e = rw e refl

pub either-told : (a b : Bool) → either a b ≡ true → (a ≡ true) ⊎ (b ≡ true)
either-told true b e = inl refl
either-told false b e = inr e

pub either_off : (a b : Bool) → either a b ≡ false → (a ≡ false) × (b ≡ false)
either_off true b e = absurd (clash refl e)
either_off false b e = (refl, e)

-- two tests that hold together are one
pub alike : (x y : Bool) → (x ≡ true → y ≡ true) → (y ≡ true → x ≡ true) → x ≡ y
alike true y f g = sym (f refl)
alike false true f g = g refl
alike false false f g = refl

-- the greater of two is one of them
pub max_case : (Q : ℕ → Type 0) (a b : ℕ) → Q a → Q b → Q (max a b)
max_case Q a b p q = go (told (leb a b))
  where
    go : (leb a b ≡ true) ⊎ (leb a b ≡ false) → Q (max a b)
    go (inl e) = rw (max-eq_right (leb-true a b e)) q
    go (inr e) = let h : b ≤ a = omega (arith, leb-false a b e) in rw (max-eq_left h) p
