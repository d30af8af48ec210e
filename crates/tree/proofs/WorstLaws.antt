-- The greatest bad node of a subtree is bad itself, and no bad node of the subtree is greater.
use mathlib.Core.Path.{◌≡◌, refl, sym}
use mathlib.Core.Bool.{true, false}
use mathlib.Core.Logic.{◌⊎◌, inl, inr}
use mathlib.Core.List.{List}
use Prim.Native.Nat.{ℕ, zero, suc, ◌+◌, ◌*◌, ◌^◌, ◌<◌, ◌≤◌, max}
use native.Mathlib.Nat.{pow-suc, mul-le-mul_right, le_trans, le-max_left, le-max_right}
use native.Mathlib.Omega.{arith}
use lib.Dec.{ltb}
use lib.Pow.{pow_pos, pow_mono}
use borrow.Author.Tests.{ltb-true, ltb-false}
use Rattle.base.proofs.PickLaws.{told, max_case}
use Rattle.layout.specs.declared.Shape.{Shape}
use Rattle.nodes.specs.Made.{good_node}
use Rattle.tree.specs.Whole.{nugget_leaf, bad_of, worst}
use Rattle.tree.proofs.Steps.{bad-nugget, bad-good, bad-bad}

-- node j stands in the subtree of height h under node i
pub record Within (h i j : ℕ) : Type 0 where
  pub depth : ℕ
  pub shallow : depth ≤ h
  pub from : i * 2 ^ depth ≤ j
  pub to : j < (i + 1) * 2 ^ depth

-- a bad node of the subtree, no nugget's leaf
pub record Bad (s : Shape) (v : List ℕ) (h i j : ℕ) : Type 0 where
  pub within : Within h i j
  pub other : nugget_leaf s j ≡ false
  pub bad : good_node s v j ≡ false

-- every node of the tree stands under node 1
pub under_root : (h j : ℕ) → 1 ≤ j → j < 2 * 2 ^ h → Within h 1 j
under_root zero j a b = record { depth = 0; shallow = omega arith; from = omega arith; to = omega arith }
under_root (suc h) j a b = go (told (ltb j (2 * 2 ^ h))) (λ q. under_root h j a q)
  where
    go : (ltb j (2 * 2 ^ h) ≡ true) ⊎ (ltb j (2 * 2 ^ h) ≡ false) → (j < 2 * 2 ^ h → Within h 1 j) → Within (suc h) 1 j
    go (inl e) again =
        let w = again (ltb-true j (2 * 2 ^ h) e) in
        record { depth = w.depth; shallow = omega (arith, w.shallow); from = w.from; to = w.to }
    go (inr e) again =
        record { depth = suc h; shallow = omega arith; from = omega (arith, pow-suc 2 h, ltb-false j (2 * 2 ^ h) e); to = omega arith }

pub root_some : (h j : ℕ) → Within h 1 j → (1 ≤ j) × (j < 2 * 2 ^ h)
root_some h j w =
    let p : 2 ^ w.depth ≤ 2 ^ h = pow_mono w.shallow in
    (omega (arith, w.from, pow_pos w.depth), omega (arith, p, w.to))

module _ (s : Shape) (v : List ℕ) where
  own : (i j d : ℕ) → d ≡ 0 → i * 2 ^ d ≤ j → j < (i + 1) * 2 ^ d → nugget_leaf s j ≡ false → good_node s v j ≡ false → j ≤ bad_of s v i
  own i j d z a b x y =
      let e : i ≡ j = (let a₀ : i * 2 ^ 0 ≤ j = rw z at a in let b₀ : j < (i + 1) * 2 ^ 0 = rw z at b in omega arith) in
      rw e (omega (arith, bad-bad s v j x y))

  most : (h i j d : ℕ) → d ≤ h → i * 2 ^ d ≤ j → j < (i + 1) * 2 ^ d → nugget_leaf s j ≡ false → good_node s v j ≡ false → j ≤ worst s v h i
  unfolding worst
  most zero i j d l a b x y = own i j d (omega arith) a b x y
  most (suc h) i j zero l a b x y = le_trans (own i j 0 refl a b x y) (le-max_left _ _)
  most (suc h) i j (suc d) l a b x y =
      le_trans (go (told (ltb j ((2 * i + 1) * 2 ^ d))) (λ p q. most h (2 * i) j d (omega arith) p q x y) (λ p q. most h (2 * i + 1) j d (omega arith) p q x y))
      (le-max_right (bad_of s v i) _)
    where
      a₁ : i * (2 ^ d * 2) ≤ j
      a₁ = rw (pow-suc 2 d) at a

      b₁ : j < (i + 1) * (2 ^ d * 2)
      b₁ = rw (pow-suc 2 d) at b

      go : (ltb j ((2 * i + 1) * 2 ^ d) ≡ true) ⊎ (ltb j ((2 * i + 1) * 2 ^ d) ≡ false)
          → (2 * i * 2 ^ d ≤ j → j < (2 * i + 1) * 2 ^ d → j ≤ worst s v h (2 * i))
          → ((2 * i + 1) * 2 ^ d ≤ j → j < (2 * i + 1 + 1) * 2 ^ d → j ≤ worst s v h (2 * i + 1)) → j ≤ max (worst s v h (2 * i)) (worst s v h (2 * i + 1))
      go (inl e) left right = le_trans (left (omega (arith, a₁)) (ltb-true _ _ e)) (le-max_left _ _)
      go (inr e) left right = le_trans (right (ltb-false _ _ e) (omega (arith, b₁))) (le-max_right _ _)

  -- every bad node of the subtree is at most the worst
  pub worst-most : (h i j : ℕ) → Bad s v h i j → j ≤ worst s v h i
  worst-most h i j b = most h i j b.within.depth b.within.shallow b.within.from b.within.to b.other b.bad

module _ (s : Shape) (v : List ℕ) where
  here : (h i : ℕ) → (bad_of s v i ≡ 0) ⊎ Bad s v h i (bad_of s v i)
  here h i = go (told (nugget_leaf s i)) (told (good_node s v i))
    where
      go : (nugget_leaf s i ≡ true) ⊎ (nugget_leaf s i ≡ false) → (good_node s v i ≡ true) ⊎ (good_node s v i ≡ false) → (bad_of s v i ≡ 0) ⊎ Bad s v h i (bad_of s v i)
      go (inl e) f = inl (sym (bad-nugget s v i e))
      go (inr e) (inl f) = inl (sym (bad-good s v i e f))
      go (inr e) (inr f) =
          rw (← bad-bad s v i e f)
          (inr (record { within = record { depth = 0; shallow = omega arith; from = omega arith; to = omega arith }; other = e; bad = f }))

  -- from one of the two nodes below
  deeper : (h i c w : ℕ) → 2 * i ≤ c → c ≤ 2 * i + 1 → (w ≡ 0) ⊎ Bad s v h c w → (w ≡ 0) ⊎ Bad s v (suc h) i w
  deeper h i c w a b (inl e) = inl e
  deeper h i c w a b (inr x) =
      let t = x.within in
      let p = pow-suc 2 t.depth in
      let a₁ = mul-le-mul_right (2 ^ t.depth) a in
      let b₁ = mul-le-mul_right (2 ^ t.depth) b in
      inr (record {
        within = record { depth = suc t.depth; shallow = omega (arith, t.shallow); from = rw p (omega (arith, t.from, a₁)); to = rw p (omega (arith, t.to, b₁)) };
        other = x.other;
        bad = x.bad;
      })

  -- the worst is none, or bad itself
  pub worst-bad : (h i : ℕ) → (worst s v h i ≡ 0) ⊎ Bad s v h i (worst s v h i)
  unfolding worst
  worst-bad zero i = here zero i
  worst-bad (suc h) i =
      max_case (λ w. (w ≡ 0) ⊎ Bad s v (suc h) i w) _ _ (here (suc h) i)
      (max_case (λ w. (w ≡ 0) ⊎ Bad s v (suc h) i w) _ _ (deeper h i (2 * i) _ (omega arith) (omega arith) (worst-bad h (2 * i)))
      (deeper h i (2 * i + 1) _ (omega arith) (omega arith) (worst-bad h (2 * i + 1))))
