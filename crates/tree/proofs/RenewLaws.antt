-- A path renewed: what stands, and what is left to renew.
use mathlib.Core.Path.{◌≡◌}
use mathlib.Core.List.{List}
use Prim.Native.Nat.{ℕ, ◌<◌}
use native.Mathlib.Omega.{arith}
use Rattle.heaps.proofs.HeapLaws as Heaps
use Rattle.layout.specs.Shape.{leaves}
use Rattle.layout.specs.declared.Shape.{Shape}
use Rattle.nodes.specs.Alike.{Outside}
use Rattle.tree.specs.Renewed.{renewed}
use Rattle.tree.specs.Good.{AllGood, GoodBut}
use Rattle.tree.proofs.Heap.{tree_heap}
use Rattle.layout.specs.Shaped.{Shaped}
use Rattle.layout.proofs.Limits.{lent_small}

module _ (s : Shape) (n : ℕ) (v : List ℕ) (l : Shaped s v) (h : n < s.n) where
  abbrev low : n < leaves s.n
  low = omega (arith, (lent_small l).enough_leaves)

  -- all that is outside the tree stands
  pub renewed-outside : Outside s v (renewed s n v)
  unfolding renewed
  renewed-outside = Heaps.renewed_kin (tree_heap s) n v low

  -- one nugget less is left to renew
  pub renewed_but : (D : ℕ → Type 0) → GoodBut s D v → GoodBut s (λ m. D m × (m ≡ n → ⊥)) (renewed s n v)
  unfolding renewed
  renewed_but = Heaps.renewed_but (tree_heap s) n v low l

-- nothing left to renew
pub none_left_lem : (s : Shape) (v : List ℕ) → GoodBut s (λ m. ⊥) v → AllGood s v
none_left_lem s = Heaps.none_left_lem (tree_heap s)

pub all_but : (s : Shape) (v : List ℕ) (D : ℕ → Type 0) → AllGood s v → GoodBut s D v
all_but s = Heaps.all_but (tree_heap s)

-- more may be left than is
pub but_more : (s : Shape) (v : List ℕ) (D E : ℕ → Type 0) → ((m : ℕ) → m < s.n → D m → E m) → GoodBut s D v → GoodBut s E v
but_more s = Heaps.but_more (tree_heap s)
