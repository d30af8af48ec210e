-- A built tree is good, and leaves all else alone.
use mathlib.Core.List.{List}
use Prim.Native.Nat.{ℕ}
use Rattle.heaps.proofs.HeapLaws as Heaps
use Rattle.layout.specs.declared.Shape.{Shape}
use Rattle.nodes.specs.Alike.{Outside}
use Rattle.tree.specs.Renewed.{built}
use Rattle.tree.specs.Good.{AllGood}
use Rattle.tree.proofs.Heap.{tree_heap}
use Rattle.layout.specs.Shaped.{Shaped}

module _ (s : Shape) (v : List ℕ) where
  pub built-outside : Outside s v (built s v)
  unfolding built
  built-outside = Heaps.built_kin (tree_heap s) v

  pub built-good : Shaped s v → AllGood s (built s v)
  unfolding built
  built-good = Heaps.built-good (tree_heap s) v
