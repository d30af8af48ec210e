-- What is known of limbs on the way: how large each may be, and what a carry or a product leaves.
use Rattle.std.specs.Prelude.{◌≡◌, List, get_or, take, drop, ℕ, zero, suc, ◌+◌, ◌*◌, ◌^◌, ◌/◌, ◌%◌, ◌<◌, ◌≤◌}
use Rattle.words.specs.Le.{num}
use Rattle.limbs.specs.declared.Limbs.{Limbs}
use Rattle.limbs.specs.declared.Cut.{Cut}
use Rattle.limbs.specs.declared.Rippled.{Rippled}
use Rattle.limbs.specs.Limbs.{at, value, quad, p}

-- each limb is below m
pub record Below (m : ℕ) (x : Limbs) : Type 0 where
  pub b0 : x.l0 < m
  pub b1 : x.l1 < m
  pub b2 : x.l2 < m
  pub b3 : x.l3 < m
  pub b4 : x.l4 < m

-- the digits of a number below p
pub record Reduced (x : Limbs) : Type 0 where
  pub small : Below (2 ^ 26) x
  pub under : value x < p

-- a limb cut at 26 bits
pub record Cuts (x : ℕ) (r : Cut) : Type 0 where
  pub whole : x ≡ r.high * 2 ^ 26 + r.low
  pub small : r.low < 2 ^ 26
  pub rest : r.high < 2 ^ 38

-- x added to the digits and carried through; p + 5 is 2^130
pub record Ripples (a b c d e x : ℕ) (r : Rippled) : Type 0 where
  pub whole : at (2 ^ 26) a b c d e + x ≡ value r.low + (p + 5) * r.top
  pub small : Below (2 ^ 26) r.low
  pub rest : r.top < 2 ^ 38
  pub light : a < 2 ^ 26 + 2 ^ 20 → b < 2 ^ 26 + 2 ^ 20 → c < 2 ^ 26 + 2 ^ 20 → d < 2 ^ 26 + 2 ^ 20 → e < 2 ^ 26 + 2 ^ 20 → x ≤ 5 → r.top ≤ 1

-- a representative of x modulo p whose limbs may be a little too large
pub record Stands (x : ℕ) (r : Limbs) : Type 0 where
  pub same : value r % p ≡ x % p
  pub loose : Below (2 ^ 26 + 2 ^ 20) r

-- exactly x, in digits
pub record Holds (x : ℕ) (r : Limbs) : Type 0 where
  pub whole : value r ≡ x
  pub small : Below (2 ^ 26) r

-- both numbers' limbs added
pub record Sums (a b r : Limbs) : Type 0 where
  pub s0 : r.l0 ≡ a.l0 + b.l0
  pub s1 : r.l1 ≡ a.l1 + b.l1
  pub s2 : r.l2 ≡ a.l2 + b.l2
  pub s3 : r.l3 ≡ a.l3 + b.l3
  pub s4 : r.l4 ≡ a.l4 + b.l4

-- five times each limb
pub record Fives (r v : Limbs) : Type 0 where
  pub f0 : v.l0 ≡ 5 * r.l0
  pub f1 : v.l1 ≡ 5 * r.l1
  pub f2 : v.l2 ≡ 5 * r.l2
  pub f3 : v.l3 ≡ 5 * r.l3
  pub f4 : v.l4 ≡ 5 * r.l4

-- the 32-bit words of the digits, and what is left above
pub record Worded (x : Limbs) (r : List ℕ) : Type 0 where
  pub ba : get_or r 0 0 < 2 ^ 32
  pub bb : get_or r 1 0 < 2 ^ 32
  pub bc : get_or r 2 0 < 2 ^ 32
  pub bd : get_or r 3 0 < 2 ^ 32
  pub whole : value x ≡ quad (get_or r 0 0) (get_or r 1 0) (get_or r 2 0) (get_or r 3 0 + 2 ^ 32 * (x.l4 / 2 ^ 24))

-- a turn with t added at bit 104: with t = 2^24 that is the appended 1 of a whole block
unfoldable pub step_by : ℕ → ℕ → ℕ → List ℕ → ℕ
step_by t r a b = r * (a + (num b + 2 ^ 104 * t)) % p

unfoldable pub steps_by : ℕ → ℕ → ℕ → ℕ → List ℕ → ℕ
steps_by t zero r a m = a
steps_by t (suc n) r a m = steps_by t n r (step_by t r a (take 16 m)) (drop 16 m)

-- a representative of the remainder x
pub record Ran (x : ℕ) (r : Limbs) : Type 0 where
  pub same : value r % p ≡ x
  pub loose : Below (2 ^ 26 + 2 ^ 20) r
