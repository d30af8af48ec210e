-- A stored flake "is empty exactly for answers 1, 2 or 8".
use mathlib.Core.Path.{◌≡◌, refl, ap, ◌∙◌}
use mathlib.Core.Bool.{Bool, true, false}
use mathlib.Core.Logic.{◌⊎◌, inl, inr}
use mathlib.Core.List.{List, []}
use Prim.Native.Nat.{ℕ}
use native.Mathlib.Omega.{arith}
use lib.Dec.{eqb}
use lib.ListN.{length}
use Rattle.base.specs.Pick.{pick}
use Rattle.base.proofs.PickLaws.{yes, no}
use Rattle.base.proofs.PartLaws.{length_part}
use Rattle.layout.specs.Parts.{length_of, flake_at}
use Rattle.layout.proofs.Limits.{Limits, limits}
use Rattle.layout.proofs.Places.{flake-inside}
use Rattle.answers.specs.Answer.{Answer}
use Rattle.answers.specs.Answer as A
use Rattle.answers.specs.Numbers.{accepts}
use Rattle.answers.specs.Stages.{and_then}
use Rattle.drive.specs.declared.Drive.{Drive}
use Rattle.drive.specs.Drive.{shape_of}
use Rattle.drive.specs.Opening.{in_form, measure_of}
use Rattle.reports.specs.Stored.{is_flake, stored_answer, stored_flake}
use Rattle.reports.proofs.AnswerLaws.{stored_is}

-- answer 1, 2 or 8
abbrev pub Refusal : Answer → Type 0
Refusal a = (a ≡ A.Limits) ⊎ ((a ≡ A.Length) ⊎ (a ≡ A.PastEnd))

refusal_refuses : (a : Answer) → Refusal a → accepts a ≡ false
refusal_refuses a (inl e) = rw e refl
refusal_refuses a (inr (inl e)) = rw e refl
refusal_refuses a (inr (inr e)) = rw e refl

module _ (d : Drive) (v : List ℕ) (n f : ℕ) where
  -- no other answer is given
  pub stored-answers : (stored_answer d v n f ≡ A.Accepted) ⊎ Refusal (stored_answer d v n f)
  unfolding stored_answer measure_of and_then
  stored-answers = go (in_form d) (eqb (length v) (length_of (shape_of d))) (is_flake d n f)
    where
      go : (a b c : Bool) → let m = pick a (pick b A.Accepted A.Length) A.Limits in
          (and_then m (pick c A.Accepted A.PastEnd) ≡ A.Accepted) ⊎ Refusal (and_then m (pick c A.Accepted A.PastEnd))
      go true true true = inl refl
      go true true false = inr (inr (inr refl))
      go true false c = inr (inr (inl refl))
      go false b c = inr (inl refl)

  -- accepted: all F bytes
  pub stored-length : accepts (stored_answer d v n f) ≡ true → length (stored_flake d v n f) ≡ d.f
  unfolding stored_flake
  stored-length h =
      let is = stored_is d v n f h in
      ap length (yes [] h refl) ∙ length_part (flake_at (shape_of d) n f) d.f v (rw is.lent.size (flake-inside (shape_of d) n f is.nugget is.flake))

  pub stored-none : accepts (stored_answer d v n f) ≡ false → stored_flake d v n f ≡ []
  unfolding stored_flake
  stored-none h = no _ h refl

  pub stored-empty : (stored_flake d v n f ≡ [] → Refusal (stored_answer d v n f)) × (Refusal (stored_answer d v n f) → stored_flake d v n f ≡ [])
  stored-empty = (λ e. go e stored-answers, λ r. stored-none (refusal_refuses (stored_answer d v n f) r))
    where
      go : stored_flake d v n f ≡ [] → (stored_answer d v n f ≡ A.Accepted) ⊎ Refusal (stored_answer d v n f) → Refusal (stored_answer d v n f)
      go e (inr r) = r
      go e (inl a) =
          let h : accepts (stored_answer d v n f) ≡ true = ap accepts a in
          let l : Limits (shape_of d) = limits (shape_of d) (stored_is d v n f h).lent.limited in
          let z : length (stored_flake d v n f) ≡ 0 = ap length e in
          absurd (omega (arith, stored-length h))
