-- What an accepted probe says of its shape, volume and nugget.
use mathlib.Core.Path.{◌≡◌, refl, sym, ◌∙◌, ap}
use mathlib.Core.Bool.{Bool, true, false}
use mathlib.Core.List.{List}
use mathlib.Core.Logic.{◌⊎◌, inl, inr}
use Prim.Native.Nat.{ℕ, ◌<◌}
use native.Mathlib.Omega.{arith}
use lib.Dec.{eqb, ltb}
use lib.ListN.{length}
use borrow.Author.Tests.{eqb-true, ltb-true}
use Rattle.base.specs.Pick.{pick}
use Rattle.base.proofs.PickLaws.{yes, no, told}
use Rattle.answers.specs.Answer as A
use Rattle.answers.specs.Numbers.{accepts}
use Rattle.layout.specs.declared.Shape.{Shape}
use Rattle.layout.specs.Shape.{in_limits}
use Rattle.layout.specs.Parts.{length_of}
use Rattle.probe.specs.Probes.{shaped_answer, renew_answer}
use Rattle.layout.specs.Shaped.{Shaped}

never : {A : Type 0} → ◌≡◌ {A = Bool} false true → A
never e = absurd (let z : ◌≡◌ {A = ℕ} 0 1 = cc in omega arith)

pub lent_told : (s : Shape) (v : List ℕ) → accepts (shaped_answer s v) ≡ true → Shaped s v
unfolding shaped_answer
lent_told s v h = go (told (in_limits s)) (told (eqb (length v) (length_of s)))
  where
    go : (in_limits s ≡ true) ⊎ (in_limits s ≡ false) → (eqb (length v) (length_of s) ≡ true) ⊎ (eqb (length v) (length_of s) ≡ false) → Shaped s v
    go (inl a) (inl b) = record { limited = a; size = eqb-true (length v) (length_of s) b }
    go (inl a) (inr b) = never (sym (ap accepts (yes A.Limits a (no A.Accepted b refl))) ∙ h)
    go (inr a) b = never (sym (ap accepts (no (pick (eqb (length v) (length_of s)) A.Accepted A.Length) a refl)) ∙ h)

pub nugget_told_lem : (s : Shape) (v : List ℕ) (n : ℕ) → accepts (renew_answer s v n) ≡ true → Shaped s v × (n < s.n)
unfolding renew_answer
nugget_told_lem s v n h = go (told (accepts (shaped_answer s v))) (told (ltb n s.n))
  where
    go : (accepts (shaped_answer s v) ≡ true) ⊎ (accepts (shaped_answer s v) ≡ false) → (ltb n s.n ≡ true) ⊎ (ltb n s.n ≡ false) → Shaped s v × (n < s.n)
    go (inl a) (inl b) = (lent_told s v a, ltb-true n s.n b)
    go (inl a) (inr b) = never (sym (ap accepts (yes (shaped_answer s v) a (no A.Accepted b refl))) ∙ h)
    go (inr a) b = never (sym a ∙ sym (ap accepts (no (pick (ltb n s.n) A.Accepted A.PastEnd) a refl)) ∙ h)
