-- Four numbers that lie limb by limb: limb k of the number in lane l is at 4 * k + l.
use Rattle.std.specs.Prelude.{◌≡◌, List, ℕ, ◌+◌, ◌*◌, ◌^◌, ◌<◌, length, get_or}
use Rattle.base.specs.Lists.{part}
use Rattle.words.specs.Le.{num}
use Rattle.limbs.specs.declared.Limbs.{Limbs}
use Rattle.limbs.specs.Limbs.{value}
use Rattle.limbs.specs.Bounds.{Below, Stands, Fives}

-- the number in lane l
abbrev pub lane_of : List ℕ → ℕ → Limbs
lane_of h l = record { l0 = get_or h l 0; l1 = get_or h (4 + l) 0; l2 = get_or h (8 + l) 0; l3 = get_or h (12 + l) 0; l4 = get_or h (16 + l) 0 }

-- a block's number with the 1 that RFC 8439 2.5.1 sets behind its bytes
abbrev pub block_at : List ℕ → ℕ → ℕ
block_at m at = num (part at 16 m) + 2 ^ 104 * 2 ^ 24

-- four numbers, each times its power of r: what is in lane 0 has four turns before it, what is in lane 3 one
abbrev pub sum_by_powers : ℕ → ℕ → ℕ → ℕ → ℕ → ℕ
sum_by_powers r a b c d = a * (r * r * r * r) + b * (r * r * r) + c * (r * r) + d * r

abbrev pub weighed : ℕ → List ℕ → ℕ
weighed r h = sum_by_powers r (value (lane_of h 0)) (value (lane_of h 1)) (value (lane_of h 2)) (value (lane_of h 3))

-- numbers of 32-bit limbs in four lanes
pub record Narrow (h : List ℕ) : Type 0 where
  pub long : length h ≡ 20
  pub at : (l : ℕ) → l < 4 → Below (2 ^ 32) (lane_of h l)

-- v has x in lane l, and in the others what w has
pub record LanePut (l : ℕ) (x : Limbs) (w v : List ℕ) : Type 0 where
  pub long : length v ≡ length w
  pub here : lane_of v l ≡ x
  pub others : (j : ℕ) → j < 4 → (j ≡ l → ⊥) → lane_of v j ≡ lane_of w j

-- x in each lane
pub record Level (x : Limbs) (h : List ℕ) : Type 0 where
  pub at : (l : ℕ) → l < 4 → lane_of h l ≡ x

-- lanes that may be multiplied
pub record LanesFit (h : List ℕ) : Type 0 where
  pub at : (l : ℕ) → l < 4 → Below (2 ^ 27) (lane_of h l)

-- factors, and five times their limbs
pub record Multiplies (q v : List ℕ) : Type 0 where
  pub loose : (l : ℕ) → l < 4 → Below (2 ^ 26 + 2 ^ 20) (lane_of q l)
  pub five : (l : ℕ) → l < 4 → Fives (lane_of q l) (lane_of v l)

-- the first four blocks, and a in lane 0
pub record Blocks (a : Limbs) (m h : List ℕ) : Type 0 where
  pub fits : LanesFit h
  pub zeroth : value (lane_of h 0) ≡ value a + block_at m 0
  pub rest : (l : ℕ) → 0 < l → l < 4 → value (lane_of h l) ≡ block_at m (16 * l)

-- each lane of w times that of q, and its block added
pub record Turned (q m : List ℕ) (at : ℕ) (w v : List ℕ) : Type 0 where
  pub long : length v ≡ length w
  pub each : (l : ℕ) → l < 4 → Stands (value (lane_of w l) * value (lane_of q l) + block_at m (at + 16 * l)) (lane_of v l)
