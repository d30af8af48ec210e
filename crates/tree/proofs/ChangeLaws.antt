-- Records and tags of some nuggets changed: their paths are left to renew.
use mathlib.Core.Path.{◌≡◌, sym, ◌∙◌}
use mathlib.Core.Logic.{◌⊎◌, inl, inr}
use mathlib.Core.List.{List}
use Prim.Native.Nat.{ℕ, ◌+◌, ◌-◌, ◌*◌, ◌<◌, ◌≤◌}
use native.Mathlib.Omega.{arith}
use Rattle.base.proofs.PickLaws.{clash}
use Rattle.layout.specs.Shape.{height_of, leaves}
use Rattle.layout.specs.declared.Shape.{Shape}
use Rattle.nodes.specs.Alike.{Alike}
use Rattle.nodes.proofs.MadeLaws.{made_alike}
use Rattle.tree.specs.Good.{GoodBut, Beside}
use Rattle.heaps.proofs.PathLaws.{path-leaf}

-- the nuggets of E join those left to renew
pub changed_but : (s : Shape) (v w : List ℕ) (D E : ℕ → Type 0) → Beside s E v w → GoodBut s D v → GoodBut s (λ m. D m ⊎ E m) w
changed_but s v w D E x g i a b none =
    sym (x.nodes i a b) ∙ g i a b (λ m h d. none m h (inl d))
    ∙ made_alike s v w i (λ h. (x.nodes (2 * i) (omega arith) (omega arith), x.nodes (2 * i + 1) (omega arith) (omega arith))) leaf
  where
    leaf : leaves s.n ≤ i → i < leaves s.n + s.n → Alike s v w (i - leaves s.n)
    leaf h k =
        let m = i - leaves s.n in
        let e : leaves s.n + m ≡ i = omega arith in
        x.others m (omega arith) (λ q. clash (rw e at (path-leaf (height_of s.n) m)) (none m (omega arith) (inr q)))
