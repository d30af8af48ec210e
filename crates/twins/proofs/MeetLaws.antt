-- Where two paths meet: on the path, alike in both volumes, and above a node that isn't, unless it is the leaf.
use mathlib.Core.Path.{◌≡◌, refl, sym, ◌∙◌}
use mathlib.Core.Bool.{Bool, true, false}
use mathlib.Core.Logic.{◌⊎◌, inl, inr}
use mathlib.Core.List.{List}
use Prim.Native.Nat.{ℕ, zero, suc, ◌+◌, ◌-◌, ◌*◌, ◌/◌, ◌<◌, ◌≤◌}
use native.Mathlib.Omega.{arith}
use lib.Dec.{eqb}
use borrow.Author.Tests.{eq-eqb}
use Rattle.base.specs.Lists.{same}
use Rattle.base.proofs.PickLaws.{yes, no, told, clash, either_left, either_right}
use Rattle.base.proofs.FoldLaws.{same_true, same_refl}
use Rattle.layout.specs.Shape.{height_of, leaves}
use Rattle.layout.specs.Shaped.{Shaped}
use Rattle.layout.specs.declared.Shape.{Shape}
use Rattle.layout.proofs.Limits.{lent_small}
use Rattle.nodes.specs.Nodes.{node_in}
use Rattle.tree.specs.Path.{Rises}
use Rattle.tree.specs.Good.{upward}
use Rattle.tree.proofs.Heights.{rises-some, rises-half, rises-leaf}
use Rattle.twins.specs.Twins.{same_node, agreeing, meeting}

-- one node up
pub rises-on : (k i : ℕ) → 0 < k → Rises (suc k) i → Rises (suc (k - 1)) (i / 2)
rises-on zero i h r = absurd (omega arith)
rises-on (suc k) i h r = let z : suc k - 1 ≡ k = omega arith in rw z (rises-half (suc k) i r)

module _ (s : Shape) (v w : List ℕ) where
  -- the loop's steps
  pub agreeing-here : (k i : ℕ) → 0 < k → same_node s v w i ≡ true → i ≡ agreeing s v w k i
  unfolding agreeing
  agreeing-here zero i h e = absurd (omega arith)
  agreeing-here (suc k) i h e = sym (yes _ e refl)

  pub agreeing-on : (k i : ℕ) → 0 < k → same_node s v w i ≡ false → agreeing s v w (k - 1) (i / 2) ≡ agreeing s v w k i
  unfolding agreeing
  agreeing-on zero i h e = absurd (omega arith)
  agreeing-on (suc k) i h e = let z : suc k - 1 ≡ k = omega arith in rw z (sym (no _ e refl))

  pub agreeing_end : (k i : ℕ) → k ≤ 0 → i ≡ agreeing s v w k i
  unfolding agreeing
  agreeing_end zero i h = refl
  agreeing_end (suc k) i h = absurd (omega arith)

  -- two nodes that were compared
  pub node_same : (i : ℕ) {x y : List ℕ} {r : Bool} → x ≡ node_in s v i → y ≡ node_in s w i → r ≡ same x y → same_node s v w i ≡ r
  unfolding same_node
  node_same i ex ey er = sym (er ∙ rw (ex, ey) refl)

  same_node_lem : (i : ℕ) → same_node s v w i ≡ true → node_in s v i ≡ node_in s w i
  unfolding same_node
  same_node_lem i e = same_true _ _ e

  other_node : (i : ℕ) → same_node s v w i ≡ false → node_in s v i ≡ node_in s w i → ⊥
  unfolding same_node
  other_node i e q = clash (rw q (same_refl (node_in s w i))) e

  -- a node below node m in which the volumes differ
  pub record Below (m : ℕ) : Type 0 where
    pub child : ℕ
    pub half : child / 2 ≡ m
    pub low : child < 2 * leaves s.n
    pub differ : node_in s v child ≡ node_in s w child → ⊥

  pub record Meets (k j m : ℕ) : Type 0 where
    pub on : upward (suc k) j m ≡ true
    pub alike : node_in s v m ≡ node_in s w m
    pub above : (m ≡ j) ⊎ Below m

  at_once : (k j : ℕ) → node_in s v j ≡ node_in s w j → Meets k j j
  unfolding upward
  at_once k j e = record { on = either_left _ (eq-eqb j j refl); alike = e; above = inl refl }

  meets : node_in s v 1 ≡ node_in s w 1 → (k j : ℕ) → Rises (suc k) j → j < 2 * leaves s.n → Meets k j (agreeing s v w k j)
  unfolding agreeing upward
  meets top zero j r h = let one : j ≡ 1 = omega (arith, r.reaches, r.ends) in at_once zero j (rw one top)
  meets top (suc k) j r h = go (told (same_node s v w j)) (meets top k (j / 2) (rises-half (suc k) j r) (omega arith))
    where
      up : (m : ℕ) → same_node s v w j ≡ false → (m ≡ j / 2) ⊎ Below m → Below m
      up m e (inl q) = record { child = j; half = sym q; low = h; differ = other_node j e }
      up m e (inr b) = b

      go : (same_node s v w j ≡ true) ⊎ (same_node s v w j ≡ false) → Meets k (j / 2) (agreeing s v w k (j / 2)) → Meets (suc k) j (agreeing s v w (suc k) j)
      go (inl e) again = rw e (at_once (suc k) j (same_node_lem j e))
      go (inr e) again =
          rw e (record { on = either_right (eqb j _) again.on; alike = again.alike; above = inr (up _ e again.above) })

  -- whatever node 1 is, the code ends at a node of the tree
  within : (k j : ℕ) → Rises (suc k) j → (1 ≤ agreeing s v w k j) × (agreeing s v w k j ≤ j)
  unfolding agreeing
  within zero j r = (rises-some 1 j r (omega arith), omega arith)
  within (suc k) j r = go (told (same_node s v w j)) (within k (j / 2) (rises-half (suc k) j r))
    where
      go : (same_node s v w j ≡ true) ⊎ (same_node s v w j ≡ false) → (1 ≤ agreeing s v w k (j / 2)) × (agreeing s v w k (j / 2) ≤ j / 2)
          → (1 ≤ agreeing s v w (suc k) j) × (agreeing s v w (suc k) j ≤ j)
      go (inl e) again = rw e (rises-some (suc (suc k)) j r (omega arith), omega arith)
      go (inr e) again = rw e (again.0, omega (arith, again.1))

-- of the path of a nugget
pub meeting-within : (s : Shape) (v w : List ℕ) (n : ℕ) → Shaped s v → n < s.n → (1 ≤ meeting s v w n) × (meeting s v w n < leaves s.n + s.n)
meeting-within s v w n l h =
    let q = within s v w (height_of s.n) (leaves s.n + n) (rises-leaf s n (lent_small l) h) in
    (q.0, omega (arith, q.1, h))

-- and under one node 1
pub paths_meet : (s : Shape) (v w : List ℕ) (n : ℕ) → Shaped s v → n < s.n → node_in s v 1 ≡ node_in s w 1
    → Meets s v w (height_of s.n) (leaves s.n + n) (meeting s v w n)
paths_meet s v w n l h top =
    let q = lent_small l in
    meets s v w top (height_of s.n) (leaves s.n + n) (rises-leaf s n q h) (omega (arith, q.enough_leaves))
