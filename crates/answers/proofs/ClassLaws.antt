-- The class of each range of numbers.
use mathlib.Core.Path.{◌≡◌, refl, ◌∙◌}
use mathlib.Core.Logic.{◌⊎◌, inl, inr}
use Prim.Native.Nat.{ℕ, ◌≤◌}
use native.Mathlib.Omega.{arith}
use lib.Dec.{eqb}
use borrow.Author.Tests.{eq-eqb, ne_eqb, le-leb, lt-leb}
use Rattle.base.specs.Pick.{pick}
use Rattle.base.proofs.PickLaws.{yes, no}
use Rattle.answers.specs.Classes.{class_of}
use Rattle.std.specs.Prelude.{Some, None}
use Rattle.answers.specs.declared.Class.TheVariants as C

pub form : (n : ℕ) → 1 ≤ n → n ≤ 3 → class_of n ≡ Some C.Form
unfolding class_of
form n a b = no _ (lt-leb n 0 a) (yes _ (le-leb n 3 b) refl)

pub key : (n : ℕ) → 4 ≤ n → n ≤ 6 → class_of n ≡ Some C.Key
unfolding class_of
key n a b = no _ (lt-leb n 0 (omega arith)) (no _ (lt-leb n 3 a) (yes _ (le-leb n 6 b) refl))

pub request : (n : ℕ) → 8 ≤ n → n ≤ 12 → class_of n ≡ Some C.Request
unfolding class_of
request n a b =
    no _ (lt-leb n 0 (omega arith))
    (no _ (lt-leb n 3 (omega arith)) (no _ (lt-leb n 6 (omega arith)) (no _ (lt-leb n 7 a) (yes _ (le-leb n 12 b) refl))))

-- past 12 there are 13, 15 and 16 alone
past : (n : ℕ) → 13 ≤ n → class_of n ≡ pick (eqb n 13) (Some C.Spent) (pick (eqb n 15) (Some C.Spent) (pick (eqb n 16) (Some C.Request) None))
unfolding class_of
past n a =
    no _ (lt-leb n 0 (omega arith))
    (no _ (lt-leb n 3 (omega arith)) (no _ (lt-leb n 6 (omega arith)) (no _ (lt-leb n 7 (omega arith)) (no _ (lt-leb n 12 a) refl))))

pub spent : (n : ℕ) → (n ≡ 13) ⊎ (n ≡ 15) → class_of n ≡ Some C.Spent
spent n (inl e) = past n (omega arith) ∙ yes _ (eq-eqb n 13 e) refl
spent n (inr e) = past n (omega arith) ∙ no _ (ne_eqb n 13 (λ q. omega arith)) (yes _ (eq-eqb n 15 e) refl)

pub sixteen : (n : ℕ) → n ≡ 16 → class_of n ≡ Some C.Request
sixteen n e =
    past n (omega arith)
    ∙ no _ (ne_eqb n 13 (λ q. omega arith)) (no _ (ne_eqb n 15 (λ q. omega arith)) (yes _ (eq-eqb n 16 e) refl))

-- every other number past 12, 14 among them
pub nothing : (n : ℕ) → 13 ≤ n → (n ≡ 13 → ⊥) → (n ≡ 15 → ⊥) → (n ≡ 16 → ⊥) → class_of n ≡ None
nothing n a b c d = past n a ∙ no _ (ne_eqb n 13 b) (no _ (ne_eqb n 15 c) (no _ (ne_eqb n 16 d) refl))

pub fourteen : class_of 14 ≡ None
fourteen = nothing 14 (omega arith) (λ e. omega arith) (λ e. omega arith) (λ e. omega arith)
