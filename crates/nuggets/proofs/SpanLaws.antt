-- The nuggets that a range meets.
use mathlib.Core.Path.{◌≡◌, refl, ap, ◌∙◌}
use mathlib.Core.Bool.{true}
use Prim.Native.Nat.{ℕ, ◌+◌, ◌-◌, ◌/◌, ◌<◌, ◌≤◌}
use native.Mathlib.Nat.{le-div_iff_mul-le, div-mul-le_self}
use native.Mathlib.Omega.{arith}
use Rattle.layout.specs.declared.Shape.{Shape}
use Rattle.layout.specs.declared.Spot.{Spot}
use Rattle.layout.specs.Shape.{in_limits}
use Rattle.layout.specs.Spots.{spot_at, capacity}
use Rattle.layout.proofs.Limits.{Limits, limits, capacity-le}
use Rattle.layout.proofs.Places.{spot_inside}
use Rattle.drive.specs.declared.Drive.{Drive}
use Rattle.drive.specs.Drive.{shape_of}
use Rattle.nuggets.specs.declared.Span.{Span}
use Rattle.nuggets.specs.Touched.{span_of}

-- what the code's numbers have to know of the range
pub record Inside (s : Shape) (o len : ℕ) : Type 0 where
  pub first : (spot_at s o).nugget < s.n
  pub last : (spot_at s (o + (len - 1))).nugget < s.n
  pub few : s.n ≤ 16384
  pub small : capacity s ≤ 4294967296

pub inside : (s : Shape) (o len : ℕ) → in_limits s ≡ true → 0 < len → o + len ≤ capacity s → Inside s o len
inside s o len h some fits =
    let m = limits s h in
    let p : 0 < s.p = omega (arith, m.flakes) in
    let f : 0 < s.f = omega (arith, m.wide) in
    record {
      first = (spot_inside s o p f (omega (arith, some, fits))).nugget_is;
      last = (spot_inside s (o + (len - 1)) p f (omega (arith, some, fits))).nugget_is;
      few = m.few;
      small = capacity-le s m;
    }

pub span_is : (s : Shape) (o len : ℕ) {first last : Spot} → first ≡ spot_at s o → last ≡ spot_at s (o + (len - 1))
    → ◌≡◌ {A = Span} (record { first = first.nugget; end = last.nugget + 1 }) (span_of s o len)
span_is s o len e g = rw (e, g) refl

-- of a drive's shape
pub span_of-drive : (d : Drive) (o len : ℕ) {s : Shape} {r : Span} → s ≡ shape_of d → r ≡ span_of s o len → r ≡ span_of (shape_of d) o len
span_of-drive d o len es e = e ∙ ap (λ (x : Shape). span_of x o len) es

pub span_few : (d : Drive) {s : Shape} {end : ℕ} → s ≡ shape_of d → end ≤ s.n → end ≤ d.n
span_few d es h = let e = ap (λ (x : Shape). x.n) es in omega (arith, h, e)

-- a quotient rises with its number
rises : (k : ℕ) {x y : ℕ} → 0 < k → x ≤ y → x / k ≤ y / k
rises k {x} some h = (le-div_iff_mul-le some).1 (omega (arith, h, div-mul-le_self x k))

nugget-rises : (s : Shape) {x y : ℕ} → Limits s → x ≤ y → (spot_at s x).nugget ≤ (spot_at s y).nugget
nugget-rises s l h = rises s.p (omega (arith, l.flakes)) (rises s.f (omega (arith, l.wide)) h)

-- the nugget of each byte of the range is one of them
pub span_has : (s : Shape) (o len a : ℕ) → Limits s → o ≤ a → a < o + len
    → ((span_of s o len).first ≤ (spot_at s a).nugget) × ((spot_at s a).nugget < (span_of s o len).end)
span_has s o len a l h k =
    let high = nugget-rises s {x = a} {y = o + (len - 1)} l (omega arith) in
    (nugget-rises s {x = o} {y = a} l h, omega (arith, high))
