-- Answers by stages: each test either refuses or hands on to what comes behind it.
use mathlib.Core.Path.{◌≡◌, refl, sym, ◌∙◌, ap}
use mathlib.Core.Bool.{Bool, true, false}
use Rattle.base.specs.Pick.{pick}
use Rattle.std.specs.Prelude.{Ok, Err, IsErrAnd}
use Rattle.answers.specs.declared.Refusal.{Refusal}
use Rattle.answers.specs.Answer.{Answer}
use Rattle.answers.specs.Answer as A
use Rattle.answers.specs.Numbers.{accepts}
use Rattle.answers.specs.Stages.{and_then}
use Rattle.base.proofs.PickLaws.{clash, told}
use mathlib.Core.Logic.{◌⊎◌, inl, inr}

-- a stage that accepts, and one that refuses
pub goes_on : (a next : Answer) → accepts a ≡ true → and_then a next ≡ next
unfolding and_then
goes_on a next e = rw e refl

pub stops : (a next : Answer) → accepts a ≡ false → and_then a next ≡ a
unfolding and_then
stops a next e = rw e refl

-- two stages accept only if each does
pub both_stages : (a next : Answer) → accepts (and_then a next) ≡ true → (accepts a ≡ true) × (accepts next ≡ true)
both_stages a next e = go (told (accepts a))
  where
    go : (accepts a ≡ true) ⊎ (accepts a ≡ false) → (accepts a ≡ true) × (accepts next ≡ true)
    go (inl h) = (h, ap accepts (sym (goes_on a next h)) ∙ e)
    go (inr h) = absurd (clash e (ap accepts (stops a next h) ∙ h))

-- a test of an answer that accepts held, and what comes behind it accepts
pub passed : (b : Bool) (x r : Answer) → accepts r ≡ false → accepts (pick b x r) ≡ true → (b ≡ true) × (accepts x ≡ true)
passed true x r f e = (refl, e)
passed false x r f e = let z : ◌≡◌ {A = Bool} false true = sym f ∙ e in (z, cc)

-- a test that refuses did not hold, and what comes behind it accepts
pub spared : (b : Bool) (x r : Answer) → accepts x ≡ false → accepts (pick b x r) ≡ true → (b ≡ false) × (accepts r ≡ true)
spared true x r f e = absurd (clash e f)
spared false x r f e = (refl, e)

-- whatever isn't acceptance refuses
pub refuses : (a : Answer) → (a ≡ A.Accepted → ⊥) → accepts a ≡ false
refuses (Ok x) h = absurd (h refl)
refuses (Err r) h = refl

-- a test of an accepted answer held, and what comes behind it is accepted
pub granted : (b : Bool) (x r : Answer) → accepts r ≡ false → pick b x r ≡ A.Accepted → (b ≡ true) × (x ≡ A.Accepted)
granted true x r f e = (refl, e)
granted false x r f e = let z : ◌≡◌ {A = Bool} false true = sym f ∙ ap (λ (a : Answer). accepts a) e in (z, cc)

-- 0 is acceptance's number alone
pub accepted_is : (a : Answer) → accepts a ≡ true → a ≡ A.Accepted
accepted_is (Ok x) e = refl
accepted_is (Err r) e = absurd (clash e refl)

-- a stage before one that accepts has the last word
pub first-answers : (a next : Answer) → next ≡ A.Accepted → and_then a next ≡ a
first-answers a next e = go (told (accepts a))
  where
    go : (accepts a ≡ true) ⊎ (accepts a ≡ false) → and_then a next ≡ a
    go (inl h) = goes_on a next h ∙ e ∙ sym (accepted_is a h)
    go (inr h) = stops a next h

-- what `?` hands out is the refusal that it was given
pub handed : (r a : Answer) (e : Refusal) → IsErrAnd r (λ y. y ≡ e) → a ≡ Err e → r ≡ a
handed (Ok x) a e h was = absurd h
handed (Err y) a e h was = ap (λ (z : Refusal). Err z) h ∙ sym was
