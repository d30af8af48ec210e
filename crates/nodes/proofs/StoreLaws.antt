-- A node stored anew: what it leaves, and that it is good.
use mathlib.Core.Path.{◌≡◌, refl, sym, ◌∙◌}
use mathlib.Core.Logic.{◌⊎◌, inl, inr}
use mathlib.Core.Bool.{true, false}
use mathlib.Core.List.{List}
use Prim.Native.Nat.{ℕ, ◌+◌, ◌-◌, ◌*◌, ◌<◌, ◌≤◌}
use native.Mathlib.Omega.{arith}
use lib.Dec.{ltb}
use lib.Seq.{length-sets}
use borrow.Author.Tests.{ltb-true, ltb-false}
use Rattle.base.specs.Lists.{part}
use Rattle.base.proofs.PickLaws.{told}
use Rattle.base.proofs.PartLaws.{part-sets, part-sets-above, part-sets-below, take-sets, drop-sets, part-below}
use Rattle.layout.specs.Shape.{leaves, width_of}
use Rattle.layout.specs.Parts.{tree_at, flakes_at, record_at, tag_at, node_at}
use Rattle.layout.specs.declared.Shape.{Shape}
use Rattle.layout.proofs.Places.{record_inside}
use Rattle.nodes.specs.Alike.{Alike, Outside}
use Rattle.nodes.specs.Nodes.{node_in}
use Rattle.nodes.specs.Made.{made_of, Good, store_node}
use Rattle.nodes.proofs.Bounds.{nodes_apart, node-above, node-below, node-fits, tags-inside}
use Rattle.nodes.proofs.MadeLaws.{made_alike, length-made}
use Rattle.layout.specs.Shaped.{Shaped}

pub outside_refl : (s : Shape) (v : List ℕ) → Outside s v v
outside_refl s v = record { long = refl; below = refl; above = refl }

pub outside_trans : {s : Shape} {u v w : List ℕ} → Outside s u v → Outside s v w → Outside s u w
outside_trans a b = record { long = b.long ∙ a.long; below = b.below ∙ a.below; above = b.above ∙ a.above }

pub outside_lent : {s : Shape} {v w : List ℕ} → Outside s v w → Shaped s v → Shaped s w
outside_lent o l = record { limited = l.limited; size = o.long ∙ l.size }

pub outside-alike : {s : Shape} {v w : List ℕ} (n : ℕ) → Outside s v w → n < s.n → Alike s v w n
outside-alike {s} {v} {w} n o h =
    record {
      records = part-below (record_at s n) (width_of s) (tree_at s) v w (omega (arith, record_inside s n h)) o.below;
      tags = part-below (tag_at s n 0) (16 * s.p) (tree_at s) v w (tags-inside s n h) o.below;
    }

module _ (s : Shape) (i : ℕ) (v : List ℕ) where
  pub store-outside : 1 ≤ i → i < 2 * leaves s.n → Outside s v (store_node s i v)
  unfolding store_node
  store-outside a b =
      record {
        long = length-sets v (node_at s i) (made_of s v i);
        below = take-sets (tree_at s) v (node_at s i) (made_of s v i) (node-above s i a);
        above = drop-sets (flakes_at s) v (node_at s i) (made_of s v i) (rw (length-made s v i) (node-below s i b));
      }

  pub store_same : Shaped s v → i < 2 * leaves s.n → node_in s (store_node s i v) i ≡ made_of s v i
  unfolding store_node
  store_same l h = part-sets v (node_at s i) 32 (made_of s v i) (length-made s v i) (node-fits i l h)

  pub store_other : (j : ℕ) → (i ≡ j → ⊥) → node_in s (store_node s i v) j ≡ node_in s v j
  unfolding store_node
  store_other j ne = go (told (ltb i j))
    where
      go : (ltb i j ≡ true) ⊎ (ltb i j ≡ false) → part (node_at s j) 32 (store_node s i v) ≡ part (node_at s j) 32 v
      go (inl e) = part-sets-above (node_at s j) 32 v (node_at s i) (made_of s v i) (rw (length-made s v i) (nodes_apart s i j (ltb-true i j e)))
      go (inr e) = part-sets-below (node_at s j) 32 v (node_at s i) (made_of s v i) (nodes_apart s j i (omega (arith, ltb-false i j e, ne)))

-- two volumes alike outside the tree and in the two nodes below node i want the same node i
pub made-outside : {s : Shape} {v w : List ℕ} (i : ℕ) → Outside s v w → node_in s w (2 * i) ≡ node_in s v (2 * i)
    → node_in s w (2 * i + 1) ≡ node_in s v (2 * i + 1) → made_of s w i ≡ made_of s v i
made-outside {s} {v} {w} i o a b =
    sym (made_alike s v w i (λ h. (sym a, sym b)) (λ h k. outside-alike (i - leaves s.n) o (omega arith)))

-- the stored node is good
pub store-good : {s : Shape} {v : List ℕ} (i : ℕ) → Shaped s v → 1 ≤ i → i < 2 * leaves s.n → Good s (store_node s i v) i
store-good {s} {v} i l a b =
    store_same s i v l b
    ∙ sym (made-outside i (store-outside s i v a b) (store_other s i v (2 * i) (λ e. omega arith)) (store_other s i v (2 * i + 1) (λ e. omega arith)))
