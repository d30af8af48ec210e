-- Reading undoes writing: lists of flakes.
use mathlib.Core.Path.{◌≡◌, refl, ap, ◌∙◌}
use mathlib.Core.Bool.{Bool, true, false}
use mathlib.Core.List.{List, [], ◌∷◌, ◌++◌, append-nil}
use Prim.Native.Nat.{ℕ, ◌+◌, ◌-◌, ◌*◌, ◌^◌, ◌<◌}
use native.Mathlib.Omega.{arith}
use lib.Dec.{eqb, ltb}
use borrow.Author.Tests.{ne_eqb, ltb-true}
use Rattle.base.specs.Lists.{same, every}
use Rattle.base.proofs.PickLaws.{yes, no, both_left, both_right, both_off}
use Rattle.base.proofs.FoldLaws.{same_refl}
use Rattle.line.specs.Decimal.{decimal}
use Rattle.line.specs.Reading.{value_from}
use Rattle.line.proofs.ReadLaws.{free, free-head, free-append, Far, decimal-free, decimal_value_lem}
use Rattle.pages.specs.Words.{t_none}
use Rattle.pages.specs.Page.{others, flakes_text}
use Rattle.auditor.specs.Reading.{numbers_from, flakes_read}

others-free : (c : ℕ) (fs : List ℕ) → Far c → eqb 44 c ≡ false → free c (others fs) ≡ true
unfolding others free
others-free c [] far h = refl
others-free c (f ∷ fs) far h = rw h (free-append c (decimal f) (others fs) (decimal-free c f far) (others-free c fs far h))

some-free : (c f : ℕ) (fs : List ℕ) → Far c → eqb 44 c ≡ false → free c (flakes_text (f ∷ fs)) ≡ true
unfolding flakes_text
some-free c f fs far h = free-append c (decimal f) (others fs) (decimal-free c f far) (others-free c fs far h)

pub flakes-free : (c : ℕ) (fs : List ℕ) → Far c → eqb 44 c ≡ false → eqb 45 c ≡ false → free c (flakes_text fs) ≡ true
unfolding flakes_text free
flakes-free c [] far h k = no _ k refl
flakes-free c (f ∷ fs) far h k = some-free c f fs far h

far_comma : Far 44
far_comma x h = ne_eqb (48 + x) 44 (λ e. omega (arith, e))

far_dash : Far 45
far_dash x h = ne_eqb (48 + x) 45 (λ e. omega (arith, e))

-- numbers between commas are read back
numbers-mark : (a : ℕ) (l r : List ℕ) → free 44 l ≡ true → numbers_from a (l ++ (44 ∷ r)) ≡ value_from a l ∷ numbers_from 0 r
unfolding numbers_from value_from
numbers-mark a [] r p = refl
numbers-mark a (x ∷ l) r p = let h = free-head 44 x l p in rw h.0 (numbers-mark (a * 10 + (x - 48)) l r h.1)

numbers_end : (a : ℕ) (l : List ℕ) → free 44 l ≡ true → numbers_from a l ≡ value_from a l ∷ []
unfolding numbers_from value_from
numbers_end a [] p = refl
numbers_end a (x ∷ l) p = let h = free-head 44 x l p in rw h.0 (numbers_end (a * 10 + (x - 48)) l h.1)

-- each number has at most ten digits
abbrev pub short : List ℕ → Bool
short fs = every (λ f. ltb f (10 ^ 10)) fs

numbers-others : (f : ℕ) (fs : List ℕ) → f < 10 ^ 10 → short fs ≡ true → numbers_from 0 (decimal f ++ others fs) ≡ f ∷ fs
unfolding others every
numbers-others f [] h s =
    rw (append-nil (decimal f)) (numbers_end 0 (decimal f) (decimal-free 44 f far_comma) ∙ ap (λ (x : ℕ). x ∷ []) (decimal_value_lem f h))
numbers-others f (g ∷ fs) h s =
    let small = ltb-true g (10 ^ 10) (both_left (ltb g (10 ^ 10)) _ s) in
    let rest = numbers-others g fs small (both_right (ltb g (10 ^ 10)) _ s) in
    numbers-mark 0 (decimal f) (decimal g ++ others fs) (decimal-free 44 f far_comma) ∙ rw (decimal_value_lem f h, rest)

-- a text without c is not c alone
other_text : (c : ℕ) (l : List ℕ) → free c l ≡ true → same l (c ∷ []) ≡ false
unfolding same
other_text c [] p = refl
other_text c (x ∷ l) p = both_off _ (free-head c x l p).0

pub flakes-back : (fs : List ℕ) → short fs ≡ true → flakes_read (flakes_text fs) ≡ fs
unfolding flakes_read flakes_text every
flakes-back [] s = yes _ (same_refl t_none) refl
flakes-back (f ∷ fs) s =
    no _ (other_text 45 (decimal f ++ others fs) (some-free 45 f fs far_dash refl))
    (numbers-others f fs (ltb-true f (10 ^ 10) (both_left (ltb f (10 ^ 10)) _ s)) (both_right (ltb f (10 ^ 10)) _ s))
