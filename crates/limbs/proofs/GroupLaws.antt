-- Turns by four, as the lanes take them.
use mathlib.Core.Path.{◌≡◌, refl, ap, sym, ◌∙◌}
use mathlib.Core.List.{List}
use Prim.Native.Nat.{ℕ, zero, suc, ◌+◌, ◌*◌, ◌%◌, ◌^◌, ◌<◌}
use native.Mathlib.Nat.{mul_comm, add-zero}
use native.Mathlib.Numerals.{add-one}
use native.Mathlib.Omega.{arith}
use lib.Dec.{lit<, lit≤}
use lib.ListN.{replicate, drop}
use lib.Seq.{drop-drop}
use Rattle.words.specs.Le.{num}
use Rattle.limbs.specs.declared.Limbs.{Limbs}
use Rattle.limbs.specs.Limbs.{at, value, p}
use Rattle.limbs.specs.Bounds.{Below, Fives, step_by, steps_by}
use Rattle.limbs.specs.Lanes.{lane_of, block_at, sum_by_powers, weighed, Level, LanesFit, Multiplies, Blocks, Turned}
use Rattle.limbs.proofs.Field.{mod_in}
use Rattle.limbs.proofs.Digits.{wraps}
use Rattle.limbs.proofs.TurnLaws.{wider, steps_append}
use Rattle.limbs.proofs.FourLaws.{four-turns, freed, lanes_on}

-- a product the other way round
flip : (r x n : ℕ) → r * (x + n) % p ≡ (x + n) * r % p
flip r x n = ap (λ (z : ℕ). z % p) (mul_comm r (x + n))

flips : (r x n0 n1 n2 n3 : ℕ)
    → r * (r * (r * (r * (x + n0) % p + n1) % p + n2) % p + n3) % p ≡ ((((x + n0) * r % p + n1) * r % p + n2) * r % p + n3) * r % p
flips r x n0 n1 n2 n3 =
    let e0 : r * (x + n0) % p ≡ (x + n0) * r % p = flip r x n0 in
    let e1 : r * (r * (x + n0) % p + n1) % p ≡ ((x + n0) * r % p + n1) * r % p = ap (λ (z : ℕ). r * (z + n1) % p) e0 ∙ flip r ((x + n0) * r % p) n1 in
    let e2 : r * (r * (r * (x + n0) % p + n1) % p + n2) % p ≡ (((x + n0) * r % p + n1) * r % p + n2) * r % p =
    ap (λ (z : ℕ). r * (z + n2) % p) e1 ∙ flip r (((x + n0) * r % p + n1) * r % p) n2 in
    ap (λ (z : ℕ). r * (z + n3) % p) e2 ∙ flip r ((((x + n0) * r % p + n1) * r % p + n2) * r % p) n3

-- four turns with the blocks from `at` on
four_steps : (r x at : ℕ) (m : List ℕ)
    → steps_by (2 ^ 24) 4 r x (drop at m)
    ≡ (x * (r * r * r * r) + sum_by_powers r (block_at m (at + 16 * 0)) (block_at m (at + 16 * 1)) (block_at m (at + 16 * 2)) (block_at m (at + 16 * 3))) % p
unfolding steps_by step_by
four_steps r x at m =
    let b0 = block_at m at in
    let b1 = block_at m (at + 16 * 1) in
    let b2 = block_at m (at + 16 * 2) in
    let b3 = block_at m (at + 16 * 3) in
    let e2 : at + 16 + 16 ≡ at + 32 = omega arith in
    let e3 : at + 32 + 16 ≡ at + 48 = omega arith in
    rw (add-zero at, drop-drop 16 at m, drop-drop 16 (at + 16) m, e2, drop-drop 16 (at + 32) m, e3) (flips r x b0 b1 b2 b3 ∙ four-turns (2 ^ 26) p wraps r x b0 b1 b2 b3)

-- before the lanes: no turn yet
pub none_yet : (r a : ℕ) (m : List ℕ) → steps_by (2 ^ 24) (4 * 0) r a m ≡ a
unfolding steps_by
none_yet r a m = refl

-- the next four turns
pub four_more : (r a i : ℕ) (m : List ℕ)
    → steps_by (2 ^ 24) (4 * (i + 1)) r a m
    ≡ (steps_by (2 ^ 24) (4 * i) r a m * (r * r * r * r)
    + sum_by_powers r (block_at m (64 * i + 16 * 0)) (block_at m (64 * i + 16 * 1)) (block_at m (64 * i + 16 * 2)) (block_at m (64 * i + 16 * 3)))
    % p
four_more r a i m =
    let e : 4 * (i + 1) ≡ 4 * i + 4 = omega arith in
    let f : 16 * (4 * i) ≡ 64 * i = omega arith in
    rw e (steps_append (2 ^ 24) (4 * i) 4 r a m ∙ rw f (four_steps r (steps_by (2 ^ 24) (4 * i) r a m) (64 * i) m))

abbrev zeros : ℕ → List ℕ
zeros n = replicate n 0

-- a turn with a block of zeros is a product
pub product_is : (r x n : ℕ) → steps_by 0 1 r ((x + n) % p) (zeros 16) ≡ (x % p + n) * r % p
unfolding steps_by step_by num
product_is r x n =
    flip r ((x + n) % p) 0 ∙ sym (mod_in (2 ^ 26) p wraps (x + n) 0 r) ∙ ap (λ (z : ℕ). z * r % p) (omega arith) ∙ mod_in (2 ^ 26) p wraps x n r

-- three turns with zeros make the fourth power of r
pub power_is : (r : ℕ) → steps_by 0 3 r (r % p) (zeros 48) ≡ r * r * r * r % p
unfolding steps_by step_by num
power_is r =
    let one : r * (1 + 0) % p ≡ r % p = ap (λ (z : ℕ). z % p) (omega arith) in
    ap (λ (z : ℕ). r * (r * (r * (z + 0) % p + 0) % p + 0) % p) (sym one) ∙ flips r 1 0 0 0 0 ∙ four-turns (2 ^ 26) p wraps r 1 0 0 0 0
    ∙ ap (λ (z : ℕ). z % p) (omega arith)

-- the first l lanes, a turn with each
unfoldable pub gathered : ℕ → List ℕ → ℕ → ℕ
gathered r h zero = 0
gathered r h (suc l) = (gathered r h l + value (lane_of h l)) * r % p

pub gathered_none : (r : ℕ) (h : List ℕ) → value (record { l0 = 0; l1 = 0; l2 = 0; l3 = 0; l4 = 0 }) % p ≡ gathered r h 0
unfolding gathered at p
gathered_none r h = refl

pub gathered_more : (r x l t n : ℕ) (h : List ℕ) → n ≡ value (lane_of h l) → x % p ≡ gathered r h l → t % p ≡ steps_by 0 1 r ((x + n) % p) (zeros 16)
    → t % p ≡ gathered r h (l + 1)
unfolding gathered
gathered_more r x l t n h e f g = g ∙ product_is r x n ∙ rw (add-one l, f, e)

pub gathered_all : (r l : ℕ) (h : List ℕ) → l ≡ 4 → gathered r h l ≡ weighed r h % p
unfolding gathered
gathered_all r l h e =
    rw e
    (four-turns (2 ^ 26) p wraps r 0 (value (lane_of h 0)) (value (lane_of h 1)) (value (lane_of h 2)) (value (lane_of h 3)) ∙ ap (λ (z : ℕ). z % p) (omega arith))

first-sum : (r a b0 b1 b2 b3 : ℕ) → sum_by_powers r (a + b0) b1 b2 b3 ≡ a * (r * r * r * r) + sum_by_powers r b0 b1 b2 b3
first-sum r a b0 b1 b2 b3 = omega arith

-- the first four blocks are four turns
pub first_lanes : (r : ℕ) {a : Limbs} (m h : List ℕ) → Blocks a m h → weighed r h % p ≡ steps_by (2 ^ 24) (4 * 1) r (value a % p) m
first_lanes r {a} m h b =
    let b0 = block_at m 0 in
    let b1 = block_at m 16 in
    let b2 = block_at m 32 in
    let b3 = block_at m 48 in
    let e : weighed r h ≡ value a * (r * r * r * r) + sum_by_powers r b0 b1 b2 b3 =
    rw (b.zeroth, b.rest 1 (lit< tt) (lit< tt), b.rest 2 (lit< tt) (lit< tt), b.rest 3 (lit< tt) (lit< tt)) (first-sum r (value a) b0 b1 b2 b3) in
    ap (λ (z : ℕ). z % p) e ∙ sym (freed (2 ^ 26) p wraps (value a) (r * r * r * r) (sum_by_powers r b0 b1 b2 b3))
    ∙ sym (four_more r (value a % p) 0 m ∙ ap (λ (z : ℕ). (z * (r * r * r * r) + sum_by_powers r b0 b1 b2 b3) % p) (none_yet r (value a % p) m))

-- the next four blocks are four turns more
pub more_lanes : (r a i : ℕ) {s : Limbs} (m q h v : List ℕ) → value s % p ≡ r * r * r * r % p → Level s q → Turned q m (64 * i) h v
    → weighed r h % p ≡ steps_by (2 ^ 24) (4 * i) r a m → weighed r v % p ≡ steps_by (2 ^ 24) (4 * (i + 1)) r a m
more_lanes r a i {s} m q h v power level turned e =
    let b : ℕ → ℕ = λ l. block_at m (64 * i + 16 * l) in
    let each : (l : ℕ) → l < 4 → value (lane_of v l) % p ≡ (value (lane_of h l) * value s + b l) % p =
    λ l k. (turned.each l k).same ∙ ap (λ (z : Limbs). (value (lane_of h l) * value z + b l) % p) (level.at l k) in
    lanes_on (2 ^ 26) p wraps r (value s) (steps_by (2 ^ 24) (4 * i) r a m) (value (lane_of h 0)) (value (lane_of h 1)) (value (lane_of h 2)) (value (lane_of h 3))
    (value (lane_of v 0)) (value (lane_of v 1)) (value (lane_of v 2)) (value (lane_of v 3)) (b 0) (b 1) (b 2) (b 3) power e
    (each 0 (lit< tt)) (each 1 (lit< tt)) (each 2 (lit< tt)) (each 3 (lit< tt))
    ∙ sym (four_more r a i m)

pub multiplies : {s t : Limbs} (q v : List ℕ) → Level s q → Level t v → Below (2 ^ 26 + 2 ^ 20) s → Fives s t → Multiplies q v
multiplies q v a b small five = record { loose = λ l h. rw (a.at l h) small; five = λ l h. rw (a.at l h, b.at l h) five }

pub turned-fits : (q m : List ℕ) (at : ℕ) (h v : List ℕ) → Turned q m at h v → LanesFit v
turned-fits q m at h v turned = record { at = λ l h. wider (lit≤ tt) (turned.each l h).loose }
