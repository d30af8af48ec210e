-- What a node has to be: its length, its cases, and what it is made of.
use mathlib.Core.Path.{◌≡◌, refl, sym, ap, ap₂, ◌∙◌}
use mathlib.Core.Bool.{true, false}
use mathlib.Core.Logic.{◌⊎◌, inl, inr}
use mathlib.Core.List.{List}
use Prim.Native.Nat.{ℕ, ◌+◌, ◌-◌, ◌*◌, ◌<◌, ◌≤◌}
use native.Mathlib.Omega.{arith}
use lib.Dec.{ltb}
use lib.ListN.{length, length-replicate}
use borrow.Author.Tests.{lt-ltb, le-ltb, ltb-true, ltb-false}
use Rattle.base.proofs.PickLaws.{yes, no, told}
use Rattle.base.proofs.FoldLaws.{same_true, same_refl}
use Rattle.layout.specs.Shape.{leaves}
use Rattle.layout.specs.declared.Shape.{Shape}
use Rattle.blake2s.proofs.FaceLaws.{length-hash}
use Rattle.nodes.specs.Nodes.{node_in, leaf_of, inner_of, zero_leaf}
use Rattle.nodes.specs.Alike.{Alike}
use Rattle.nodes.specs.Made.{bottom_of, made_of, Good, good_node}

pub length-leaf : (s : Shape) (v : List ℕ) (n : ℕ) → length (leaf_of s v n) ≡ 32
unfolding leaf_of
length-leaf s v n = length-hash _ _

pub length-inner : (a b : List ℕ) → length (inner_of a b) ≡ 32
unfolding inner_of
length-inner a b = length-hash _ _

pub length-zero : length zero_leaf ≡ 32
unfolding zero_leaf
length-zero = length-replicate {A = ℕ} 32 0

-- the three cases of a node
module _ (s : Shape) (v : List ℕ) (i : ℕ) where
  pub made-inner : i < leaves s.n → made_of s v i ≡ inner_of (node_in s v (2 * i)) (node_in s v (2 * i + 1))
  unfolding made_of
  made-inner h = yes _ (lt-ltb _ _ h) refl

  pub made_bottom : leaves s.n ≤ i → made_of s v i ≡ bottom_of s v i
  unfolding made_of
  made_bottom h = no _ (le-ltb _ _ h) refl

  pub bottom_leaf : i < leaves s.n + s.n → bottom_of s v i ≡ leaf_of s v (i - leaves s.n)
  unfolding bottom_of
  bottom_leaf h = yes _ (lt-ltb _ _ h) refl

  pub bottom_zero : leaves s.n + s.n ≤ i → bottom_of s v i ≡ zero_leaf
  unfolding bottom_of
  bottom_zero h = no _ (le-ltb _ _ h) refl

-- node L + n
pub made-leaf : (s : Shape) (v : List ℕ) (n : ℕ) → n < s.n → made_of s v (leaves s.n + n) ≡ leaf_of s v n
made-leaf s v n h =
    let e : leaves s.n + n - leaves s.n ≡ n = omega arith in
    made_bottom s v (leaves s.n + n) (omega arith) ∙ bottom_leaf s v (leaves s.n + n) (omega arith) ∙ ap (leaf_of s v) e

-- a property of all three cases
pub made_by : (s : Shape) (v : List ℕ) (i : ℕ) (Q : List ℕ → Type 0) → (i < leaves s.n → Q (inner_of (node_in s v (2 * i)) (node_in s v (2 * i + 1))))
    → (leaves s.n ≤ i → i < leaves s.n + s.n → Q (leaf_of s v (i - leaves s.n))) → (leaves s.n + s.n ≤ i → Q zero_leaf) → Q (made_of s v i)
made_by s v i Q a b z = first (told (ltb i (leaves s.n)))
  where
    second : leaves s.n ≤ i → (ltb i (leaves s.n + s.n) ≡ true) ⊎ (ltb i (leaves s.n + s.n) ≡ false) → Q (bottom_of s v i)
    second h (inl e) = rw (bottom_leaf s v i (ltb-true _ _ e)) (b h (ltb-true _ _ e))
    second h (inr e) = rw (bottom_zero s v i (ltb-false _ _ e)) (z (ltb-false _ _ e))

    first : (ltb i (leaves s.n) ≡ true) ⊎ (ltb i (leaves s.n) ≡ false) → Q (made_of s v i)
    first (inl e) = rw (made-inner s v i (ltb-true _ _ e)) (a (ltb-true _ _ e))
    first (inr e) = rw (made_bottom s v i (ltb-false _ _ e)) (second (ltb-false _ _ e) (told (ltb i (leaves s.n + s.n))))

pub length-made : (s : Shape) (v : List ℕ) (i : ℕ) → length (made_of s v i) ≡ 32
length-made s v i = made_by s v i (λ (l : List ℕ). length l ≡ 32) (λ h. length-inner _ _) (λ h k. length-leaf s v _) (λ h. length-zero)

pub leaf-alike : (s : Shape) (v w : List ℕ) (n : ℕ) → Alike s v w n → leaf_of s v n ≡ leaf_of s w n
unfolding leaf_of
leaf-alike s v w n a = rw (a.records, a.tags)

-- what node i has to be hangs on its two nodes, or on its nugget's record and tags
pub made_alike : (s : Shape) (v w : List ℕ) (i : ℕ)
    → (i < leaves s.n → (node_in s v (2 * i) ≡ node_in s w (2 * i)) × (node_in s v (2 * i + 1) ≡ node_in s w (2 * i + 1)))
    → (leaves s.n ≤ i → i < leaves s.n + s.n → Alike s v w (i - leaves s.n)) → made_of s v i ≡ made_of s w i
made_alike s v w i a b =
    made_by s v i (λ (l : List ℕ). l ≡ made_of s w i)
    (λ h. ap₂ inner_of (a h).0 (a h).1 ∙ sym (made-inner s w i h))
    (λ h k. leaf-alike s v w _ (b h k) ∙ sym (bottom_leaf s w i k) ∙ sym (made_bottom s w i h))
    (λ k. sym (bottom_zero s w i k) ∙ sym (made_bottom s w i (omega arith)))

-- the test is the fact
pub good_true : (s : Shape) (v : List ℕ) (i : ℕ) → good_node s v i ≡ true → Good s v i
unfolding good_node
good_true s v i e = same_true _ _ e

pub true_good : (s : Shape) (v : List ℕ) (i : ℕ) → Good s v i → good_node s v i ≡ true
unfolding good_node
true_good s v i e = rw e (same_refl _)
