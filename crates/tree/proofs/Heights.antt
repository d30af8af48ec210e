-- How many nodes a path has, and at which height a node stands.
use mathlib.Core.Path.{◌≡◌}
use Prim.Native.Nat.{ℕ, zero, suc, ◌+◌, ◌-◌, ◌*◌, ◌^◌, ◌<◌, ◌≤◌}
use native.Mathlib.Nat.{pow-suc, mul-le-mul_left}
use native.Mathlib.Omega.{arith}
use lib.Pow.{pow_pos}
use lib.Dec.{lit≤}
use Rattle.layout.specs.Shape.{height_of, leaves}
use Rattle.layout.specs.declared.Shape.{Shape}
use Rattle.layout.proofs.Limits.{Limits, Small}
use Rattle.layout.proofs.Height.{height-least}
pub use Rattle.heaps.proofs.PathLaws.{rises-some, rises-half, rises_next}
use Rattle.heaps.proofs.PathLaws.{rises-leaf as leaf-rises}
use Rattle.tree.specs.Path.{Rises}
use Rattle.tree.specs.Whole.{HasHeight}

-- i * 2 ^ h is at least i, for a product of two variables
pub times-pow : (i h : ℕ) → i ≤ i * 2 ^ h
times-pow i h = omega (arith, mul-le-mul_left i (pow_pos h))

-- the leaf of a nugget
pub rises-leaf : (s : Shape) (n : ℕ) → Small s → n < s.n → Rises (suc (height_of s.n)) (leaves s.n + n)
rises-leaf s n q h = leaf-rises (height_of s.n) n (omega (arith, q.enough_leaves))

module _ (s : Shape) (h i : ℕ) (t : HasHeight s (suc h) i) where
  pub stands_left : HasHeight s h (2 * i)
  stands_left = record { first = omega (arith, rw (pow-suc 2 h) at t.first); last = omega (arith, rw (pow-suc 2 h) at t.last) }

  pub stands_right : HasHeight s h (2 * i + 1)
  stands_right = record { first = omega (arith, rw (pow-suc 2 h) at t.first); last = omega (arith, rw (pow-suc 2 h) at t.last) }

  pub stands_inner : i < leaves s.n
  stands_inner = omega (arith, rw (pow-suc 2 h) at t.last, times-pow (i + 1) h)

pub stands_last : (s : Shape) (h i : ℕ) → HasHeight s h i → i < 2 * leaves s.n
stands_last s h i t = omega (arith, t.last, times-pow (i + 1) h)

pub stands_some : (s : Shape) (h i : ℕ) → HasHeight s h i → 1 ≤ i
stands_some s h zero t = absurd (omega (arith, t.first, pow_pos (height_of s.n)))
stands_some s h (suc i) t = omega arith

pub stands_bottom : (s : Shape) (i : ℕ) → HasHeight s 0 i → leaves s.n ≤ i
stands_bottom s i t = omega (arith, t.first)

pub stands_top : (s : Shape) → HasHeight s (height_of s.n) 1
stands_top s = record { first = omega arith; last = omega arith }

-- with the height that the code hands on
pub stands_down : (s : Shape) (h i : ℕ) → HasHeight s h i → 0 < h → HasHeight s (h - 1) (2 * i) × HasHeight s (h - 1) (2 * i + 1)
stands_down s zero i t l = absurd (omega arith)
stands_down s (suc h) i t l = let e : suc h - 1 ≡ h = omega arith in rw e (stands_left s h i t, stands_right s h i t)

pub height-few : {s : Shape} → Limits s → height_of s.n ≤ 14
height-few {s} l = height-least 14 s.n (lit≤ tt) l.few
