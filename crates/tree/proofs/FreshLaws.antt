-- A good tree equals the tree built afresh; so records and tags alone decide its nodes.
use mathlib.Core.Path.{◌≡◌, sym, ap₂, ◌∙◌}
use mathlib.Core.List.{List}
use Prim.Native.Nat.{ℕ, zero, suc, ◌+◌, ◌-◌, ◌*◌, ◌<◌, ◌≤◌}
use native.Mathlib.Omega.{arith}
use Rattle.layout.specs.Shape.{height_of, leaves}
use Rattle.layout.specs.declared.Shape.{Shape}
use Rattle.nodes.specs.Nodes.{node_in, inner_of}
use Rattle.nodes.specs.Alike.{Alike}
use Rattle.nodes.proofs.MadeLaws.{made-inner, made_bottom, made_alike}
use Rattle.heaps.proofs.HeapLaws.{by_two}
use Rattle.tree.specs.Whole.{HasHeight}
use Rattle.tree.specs.Fresh.{tree_from}
use Rattle.tree.specs.Good.{AllGood}
use Rattle.tree.proofs.Heights.{stands_left, stands_right, stands_inner, stands_last, stands_some, stands_bottom, stands_top}

-- each node is the one worked out from the records and tags below it
pub good-fresh : (s : Shape) (v : List ℕ) → AllGood s v → (h i : ℕ) → HasHeight s h i → node_in s v i ≡ tree_from s v h i
unfolding tree_from
good-fresh s v g zero i t = g i (stands_some s 0 i t) (stands_last s 0 i t) ∙ made_bottom s v i (stands_bottom s i t)
good-fresh s v g (suc h) i t =
    g i (stands_some s (suc h) i t) (stands_last s (suc h) i t) ∙ made-inner s v i (stands_inner s h i t)
    ∙ ap₂ inner_of (good-fresh s v g h (2 * i) (stands_left s h i t)) (good-fresh s v g h (2 * i + 1) (stands_right s h i t))

pub good_root : (s : Shape) (v : List ℕ) → AllGood s v → node_in s v 1 ≡ tree_from s v (height_of s.n) 1
good_root s v g = good-fresh s v g (height_of s.n) 1 (stands_top s)

-- two good trees over the same records and tags have the same nodes
pub same_nodes : (s : Shape) (v w : List ℕ) → AllGood s v → AllGood s w → ((n : ℕ) → n < s.n → Alike s v w n)
    → (i : ℕ) → 1 ≤ i → i < 2 * leaves s.n → node_in s v i ≡ node_in s w i
same_nodes s v w g f x =
    by_two (height_of s.n) (λ i. node_in s v i ≡ node_in s w i)
    (λ i a b two. g i a b ∙ made_alike s v w i two (λ h l. x (i - leaves s.n) (omega arith)) ∙ sym (f i a b))
