-- The tree as a heap: a node is 32 bytes, and what is no node stands before the tree and behind it.
use mathlib.Core.List.{List}
use Prim.Native.Nat.{ℕ}
use Rattle.heaps.specs.Heap.{Heap}
use Rattle.layout.specs.Shape.{height_of}
use Rattle.layout.specs.Shaped.{Shaped}
use Rattle.layout.specs.declared.Shape.{Shape}
use Rattle.nodes.specs.Alike.{Outside}
use Rattle.nodes.specs.Made.{made_of, store_node}
use Rattle.nodes.specs.Nodes.{node_in}
use Rattle.nodes.proofs.StoreLaws.{outside_refl, outside_trans, outside_lent, store-outside, store_same, store_other, made-outside}

abbrev pub tree_heap : Shape → Heap (List ℕ) (List ℕ)
tree_heap s =
    record {
      height = height_of s.n;
      count = s.n;
      cell = node_in s;
      made = made_of s;
      put = store_node s;
      Fit = Shaped s;
      Kin = Outside s;
      kin_refl = outside_refl s;
      kin_trans = outside_trans;
      kin_fit = outside_lent;
      put_kin = store-outside s;
      put_same = λ i v l h. store_same s i v l h;
      put_other = λ i j v a b ne. store_other s i v j ne;
      made_kin = λ i a o e f. made-outside i o e f;
    }
