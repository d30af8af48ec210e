-- Words that name the outcome admit no second one.
use mathlib.Core.Path.{◌≡◌, sym, ◌∙◌}

pub agree : {A : Type 0} {a r s : A} → r ≡ a → s ≡ a → r ≡ s
agree p q = p ∙ sym q

-- what is lent, one parameter after the other; `refl` for one that isn't lent to be changed, and for all that follow
infixr 40 ◌∥◌
pub ◌∥◌ : {A B : Type 0} {r s : A × B} → r.0 ≡ s.0 → r.1 ≡ s.1 → r ≡ s
p ∥ q = λ i. (p i, q i)
