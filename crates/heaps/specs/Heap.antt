-- What storing node by node asks of the nodes: laws, so that whatever is proved from them holds of hashes and of sums alike.
use Rattle.std.specs.Prelude.{◌≡◌, false, ℕ, suc, ◌+◌, ◌-◌, ◌*◌, ◌^◌, ◌<◌, ◌≤◌}
use Rattle.heaps.specs.Paths.{on_path, stored_up, stored_down}

pub record Heap (X C : Type 0) : Type 1 where
  -- L is 2 to this height, and so many of the leaves are in use
  pub height : ℕ
  pub count : ℕ
  -- node i, what it has to be, and node i made so
  pub cell : X → ℕ → C
  pub made : X → ℕ → C
  pub put : ℕ → X → X
  -- it is long enough; the second has all of the first that is no node
  pub Fit : X → Type 0
  pub Kin : X → X → Type 0
  pub kin_refl : (x : X) → Kin x x
  pub kin_trans : {x y z : X} → Kin x y → Kin y z → Kin x z
  pub kin_fit : {x y : X} → Kin x y → Fit x → Fit y
  pub put_kin : (i : ℕ) (x : X) → 1 ≤ i → i < 2 * 2 ^ height → Kin x (put i x)
  pub put_same : (i : ℕ) (x : X) → Fit x → i < 2 * 2 ^ height → cell (put i x) i ≡ made x i
  pub put_other : (i j : ℕ) (x : X) → 1 ≤ i → 1 ≤ j → (i ≡ j → ⊥) → cell (put i x) j ≡ cell x j
  -- what a node has to be hangs on its two, and on what is no node
  pub made_kin : {x y : X} (i : ℕ) → 1 ≤ i → Kin x y → cell y (2 * i) ≡ cell x (2 * i) → cell y (2 * i + 1) ≡ cell x (2 * i + 1) → made y i ≡ made x i

module _ {X C : Type 0} (H : Heap X C) where
  -- node i is what it has to be
  abbrev pub GoodAt : X → ℕ → Type 0
  GoodAt x i = H.cell x i ≡ H.made x i

  abbrev pub AllGood : X → Type 0
  AllGood x = (i : ℕ) → 1 ≤ i → i < 2 * 2 ^ H.height → GoodAt x i

  -- every node is good that is on no path of a leaf in D
  abbrev pub GoodBut : (ℕ → Type 0) → X → Type 0
  GoodBut D x = (i : ℕ) → 1 ≤ i → i < 2 * 2 ^ H.height → ((n : ℕ) → n < H.count → D n → on_path H.height n i ≡ false) → GoodAt x i

  -- leaf n and the nodes above it made anew, from the leaf up
  abbrev pub renewed : ℕ → X → X
  renewed n x = stored_up H.put (suc H.height) (2 ^ H.height + n) x

  -- every node made anew, from the last to the first
  abbrev pub built : X → X
  built x = stored_down H.put (2 * 2 ^ H.height - 1) x
