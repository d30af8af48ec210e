-- A path made anew, all nodes made anew: what stands, what becomes good, what is left to renew, and that goodness decides the nodes.
use mathlib.Core.Path.{◌≡◌, refl, sym, ◌∙◌}
use mathlib.Core.Bool.{true, false}
use mathlib.Core.Logic.{◌⊎◌, inl, inr}
use Prim.Native.Nat.{ℕ, zero, suc, ◌+◌, ◌-◌, ◌*◌, ◌/◌, ◌^◌, ◌<◌, ◌≤◌}
use native.Mathlib.Omega.{arith}
use lib.Pow.{pow_pos}
use lib.Dec.{eqb}
use borrow.Author.Tests.{eqb-true, eqb-false}
use Rattle.base.proofs.PickLaws.{told, clash, either_off, either-told}
use Rattle.heaps.specs.Paths.{Rises, upward, on_path, stored_up, stored_down}
use Rattle.heaps.specs.Heap.{Heap, GoodAt, AllGood, GoodBut, renewed, built}
use Rattle.heaps.proofs.PathLaws.{rises-some, rises-half, rises-leaf, upward-below, path_off}

-- a fact of each node that hangs on those of the two below it
pub by_two : (h : ℕ) (Q : ℕ → Type 0) → ((i : ℕ) → 1 ≤ i → i < 2 * 2 ^ h → (i < 2 ^ h → Q (2 * i) × Q (2 * i + 1)) → Q i)
    → (i : ℕ) → 1 ≤ i → i < 2 * 2 ^ h → Q i
by_two h Q next i a b = from_end (2 * 2 ^ h) i (omega arith) a b
  where
    from_end : (k i : ℕ) → 2 * 2 ^ h ≤ i + k → 1 ≤ i → i < 2 * 2 ^ h → Q i
    from_end zero i e a b = absurd (omega arith)
    from_end (suc k) i e a b =
        next i a b (λ l. (from_end k (2 * i) (omega arith) (omega arith) (omega arith), from_end k (2 * i + 1) (omega arith) (omega arith) (omega arith)))

module _ {X C : Type 0} (H : Heap X C) where
  abbrev ends : ℕ
  ends = 2 * 2 ^ H.height

  abbrev up : ℕ → ℕ → X → X
  up k j x = stored_up H.put k j x

  abbrev down : ℕ → X → X
  down k x = stored_down H.put k x

  -- the stored node is good
  put-good : (i : ℕ) (x : X) → H.Fit x → 1 ≤ i → i < ends → GoodAt H (H.put i x) i
  put-good i x f a b =
      H.put_same i x f b
      ∙ sym (H.made_kin i a (H.put_kin i x a b) (H.put_other i (2 * i) x a (omega arith) (λ e. omega arith)) (H.put_other i (2 * i + 1) x a (omega arith) (λ e. omega arith)))

  -- the stores keep all that is no node
  up_kin : (k j : ℕ) (x : X) → Rises k j → j < ends → H.Kin x (up k j x)
  unfolding stored_up
  up_kin zero j x r h = H.kin_refl x
  up_kin (suc k) j x r h =
      H.kin_trans (H.put_kin j x (rises-some (suc k) j r (omega arith)) h) (up_kin k (j / 2) (H.put j x) (rises-half k j r) (omega arith))

  -- and every node that isn't among those stored
  up_stands : (k j i : ℕ) (x : X) → Rises k j → 1 ≤ i → upward k j i ≡ false → H.cell (up k j x) i ≡ H.cell x i
  unfolding stored_up upward
  up_stands zero j i x r a off = refl
  up_stands (suc k) j i x r a off =
      let q = either_off (eqb j i) (upward k (j / 2) i) off in
      up_stands k (j / 2) i (H.put j x) (rises-half k j r) a q.1
      ∙ H.put_other j i x (rises-some (suc k) j r (omega arith)) a (eqb-false j i q.0)

  -- those stored are good in the end: what is stored later stands above them
  up-good : (k j i : ℕ) (x : X) → H.Fit x → Rises k j → j < ends → upward k j i ≡ true → GoodAt H (up k j x) i
  unfolding stored_up upward
  up-good zero j i x f r h on = absurd (clash on refl)
  up-good (suc k) j i x f r h on =
      go (told (eqb j i)) (either-told (eqb j i) (upward k (j / 2) i) on) (λ q. up-good k (j / 2) i (H.put j x) (H.kin_fit first f) (rises-half k j r) (omega arith) q)
    where
      some : 1 ≤ j
      some = rises-some (suc k) j r (omega arith)

      first : H.Kin x (H.put j x)
      first = H.put_kin j x some h

      stands : (c : ℕ) → j / 2 < c → H.cell (up k (j / 2) (H.put j x)) c ≡ H.cell (H.put j x) c
      stands c l = up_stands k (j / 2) c (H.put j x) (rises-half k j r) (omega arith) (upward-below k (j / 2) c l)

      go : (eqb j i ≡ true) ⊎ (eqb j i ≡ false) → (eqb j i ≡ true) ⊎ (upward k (j / 2) i ≡ true)
          → (upward k (j / 2) i ≡ true → GoodAt H (up k (j / 2) (H.put j x)) i) → GoodAt H (up k (j / 2) (H.put j x)) i
      go (inl e) y again =
          rw (← eqb-true j i e)
          (stands j (omega (arith, some)) ∙ put-good j x f some h
          ∙ sym (H.made_kin j some (up_kin k (j / 2) (H.put j x) (rises-half k j r) (omega arith)) (stands (2 * j) (omega (arith, some))) (stands (2 * j + 1) (omega arith))))
      go (inr e) (inl y) again = absurd (eqb-false j i e (eqb-true j i y))
      go (inr e) (inr y) again = again y

  -- the path of leaf n
  module _ (n : ℕ) (x : X) (h : n < 2 ^ H.height) where
    abbrev rises : Rises (suc H.height) (2 ^ H.height + n)
    rises = rises-leaf H.height n h

    -- all that is no node stands
    pub renewed_kin : H.Kin x (renewed H n x)
    renewed_kin = up_kin (suc H.height) (2 ^ H.height + n) x rises (omega arith)

    -- each node that isn't on the path stands
    pub renewed_stands : (i : ℕ) → 1 ≤ i → on_path H.height n i ≡ false → H.cell (renewed H n x) i ≡ H.cell x i
    unfolding on_path
    renewed_stands i a off = up_stands (suc H.height) (2 ^ H.height + n) i x rises a off

    -- each node on the path is good
    pub renewed-good : H.Fit x → (i : ℕ) → on_path H.height n i ≡ true → GoodAt H (renewed H n x) i
    unfolding on_path
    renewed-good f i on = up-good (suc H.height) (2 ^ H.height + n) i x f rises (omega arith) on

    -- a good node that isn't on the path stays good
    pub renewed_keeps : (i : ℕ) → 1 ≤ i → on_path H.height n i ≡ false → GoodAt H x i → GoodAt H (renewed H n x) i
    renewed_keeps i a off g =
        renewed_stands i a off ∙ g
        ∙ sym (H.made_kin i a renewed_kin (renewed_stands (2 * i) (omega arith) (path_off H.height n i (2 * i) h (omega arith) (omega arith) off))
        (renewed_stands (2 * i + 1) (omega arith) (path_off H.height n i (2 * i + 1) h (omega arith) (omega arith) off)))

    -- one leaf less is left to renew
    pub renewed_but : H.Fit x → (D : ℕ → Type 0) → GoodBut H D x → GoodBut H (λ m. D m × (m ≡ n → ⊥)) (renewed H n x)
    renewed_but f D g i a b none = go (told (on_path H.height n i))
      where
        other : on_path H.height n i ≡ false → (m : ℕ) → m < H.count → D m → (eqb m n ≡ true) ⊎ (eqb m n ≡ false) → on_path H.height m i ≡ false
        other off m k d (inl e) = rw (eqb-true m n e) off
        other off m k d (inr e) = none m k (d, eqb-false m n e)

        go : (on_path H.height n i ≡ true) ⊎ (on_path H.height n i ≡ false) → GoodAt H (renewed H n x) i
        go (inl on) = renewed-good f i on
        go (inr off) = renewed_keeps i a off (g i a b (λ m k d. other off m k d (told (eqb m n))))

  -- nothing left to renew
  pub none_left_lem : (x : X) → GoodBut H (λ m. ⊥) x → AllGood H x
  none_left_lem x g i a b = g i a b (λ m h d. absurd d)

  pub all_but : (x : X) (D : ℕ → Type 0) → AllGood H x → GoodBut H D x
  all_but x D g i a b none = g i a b

  -- more may be left than is
  pub but_more : (x : X) (D E : ℕ → Type 0) → ((m : ℕ) → m < H.count → D m → E m) → GoodBut H D x → GoodBut H E x
  but_more x D E more g i a b none = g i a b (λ m h d. none m h (more m h d))

  down_kin : (k : ℕ) (x : X) → k < ends → H.Kin x (down k x)
  unfolding stored_down
  down_kin zero x h = H.kin_refl x
  down_kin (suc k) x h = H.kin_trans (H.put_kin (suc k) x (omega arith) h) (down_kin k (H.put (suc k) x) (omega arith))

  -- with every node above k good, storing k down to 1 makes all good
  down-good : (k : ℕ) (x : X) → H.Fit x → k < ends → ((i : ℕ) → k < i → i < ends → GoodAt H x i) → AllGood H (down k x)
  unfolding stored_down
  down-good zero x f h g = λ i a b. g i a b
  down-good (suc k) x f h g =
      down-good k (H.put (suc k) x) (H.kin_fit first f) (omega arith) (λ i a b. go i a b (told (eqb (suc k) i)))
    where
      first : H.Kin x (H.put (suc k) x)
      first = H.put_kin (suc k) x (omega arith) h

      stands : (c : ℕ) → suc k < c → H.cell (H.put (suc k) x) c ≡ H.cell x c
      stands c l = H.put_other (suc k) c x (omega arith) (omega arith) (λ q. omega arith)

      go : (i : ℕ) → k < i → i < ends → (eqb (suc k) i ≡ true) ⊎ (eqb (suc k) i ≡ false) → GoodAt H (H.put (suc k) x) i
      go i a b (inl e) = rw (← eqb-true (suc k) i e) (put-good (suc k) x f (omega arith) h)
      go i a b (inr e) =
          let above : suc k < i = omega (arith, eqb-false (suc k) i e) in
          stands i above ∙ g i above b ∙ sym (H.made_kin i (omega arith) first (stands (2 * i) (omega arith)) (stands (2 * i + 1) (omega arith)))

  -- built: all that is no node stands, and every node is good
  pub built_kin : (x : X) → H.Kin x (built H x)
  built_kin x = down_kin (ends - 1) x (omega (arith, pow_pos H.height))

  pub built-good : (x : X) → H.Fit x → AllGood H (built H x)
  built-good x f = down-good (ends - 1) x f (omega (arith, pow_pos H.height)) (λ i a b. absurd (omega (arith, pow_pos H.height)))
