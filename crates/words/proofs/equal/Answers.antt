use mathlib.Core.Bool.{Bool, true, false, ◌&&◌}
use mathlib.Core.List.{List, [], ◌∷◌}
use mathlib.Core.Path.{◌≡◌, refl, ◌∙◌}
use Prim.Native.Nat.{ℕ}
use lib.Dec.{eqb}
use Rattle.std.specs.Cmp.Lexicographic.{pointwise}
use Rattle.base.specs.Pick.{both}
use Rattle.base.specs.Lists.{same}
use Rattle.words.proofs.equal.Goals as goal

both_is : (s t : Bool) → (s && t) ≡ both s t
both_is true t = refl
both_is false t = refl

pointwise-same : (a b : List ℕ) → pointwise eqb a b ≡ same a b
unfolding same
pointwise-same [] [] = refl
pointwise-same [] (y ∷ b) = refl
pointwise-same (x ∷ a) [] = refl
pointwise-same (x ∷ a) (y ∷ b) = rw (pointwise-same a b) (both_is (eqb x y) (same a b))

pub returns : goal.returns
returns c = c.eq.ensures ∙ pointwise-same c.args.a.now c.args.b.now
