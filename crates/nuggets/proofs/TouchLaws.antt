-- The flakes that a range touches are those from the first to the last of them.
use mathlib.Core.Path.{◌≡◌, sym, ◌∙◌, ap}
use mathlib.Core.Bool.{Bool, true, false}
use Prim.Native.Nat.{ℕ, ◌+◌, ◌-◌, ◌*◌, ◌/◌, ◌<◌, ◌≤◌, max, min}
use native.Mathlib.Nat.{le-div_iff_mul-le, div-lt_iff_lt-mul}
use native.Mathlib.Omega.{arith}
use borrow.Author.Tests.{lt-ltb, le-leb, ltb-true, leb-true, lt-leb, leb-false}
use lib.Dec.{ltb, leb}
use Rattle.base.specs.Pick.{both}
use Rattle.base.proofs.PickLaws.{both_left, both_right, both-on, alike, told}
use Rattle.layout.specs.declared.Shape.{Shape}
use Rattle.layout.specs.Spots.{offset_at, capacity}
use Rattle.layout.specs.Shape.{in_limits, within}
use Rattle.layout.proofs.Limits.{Limits, inside}
use Rattle.records.specs.Journal.{flakes_from}
use Rattle.records.proofs.MaskLaws.{bit_with, bit-from}
use Rattle.records.proofs.BitLaws.{same_bits, bit-empty}
use Rattle.nuggets.specs.Touched.{meets, touched_of, fits_in}
use mathlib.Core.Logic.{⊎_elim}
use Rattle.drive.specs.declared.Drive.{Drive}
use Rattle.drive.specs.Drive.{shape_of}

-- flake f of nugget n holds a byte of the range exactly if it lies between the flakes of the first and the last byte
module _ (s : Shape) (o len n : ℕ) (l : Limits s) (some : 0 < len) where
  meets_true : (f : ℕ) → o / s.f ≤ n * s.p + f → n * s.p + f ≤ (o + len - 1) / s.f → meets s o len n f ≡ true
  unfolding meets
  meets_true f a b =
      let size : 0 < s.f = omega (arith, l.wide) in
      let low : o < (n * s.p + f + 1) * s.f = (div-lt_iff_lt-mul size).0 (omega (arith, a)) in
      let high : (n * s.p + f) * s.f ≤ o + len - 1 = (le-div_iff_mul-le size).0 b in
      lt-ltb (max o (offset_at s n f 0)) (min (o + len) (offset_at s n f s.f)) (omega (arith, low, high, some, size))

  meets-told : (f : ℕ) → meets s o len n f ≡ true → (o / s.f ≤ n * s.p + f) × (n * s.p + f ≤ (o + len - 1) / s.f)
  unfolding meets
  meets-told f e =
      let size : 0 < s.f = omega (arith, l.wide) in
      let h : max o (offset_at s n f 0) < min (o + len) (offset_at s n f s.f) = ltb-true (max o (offset_at s n f 0)) (min (o + len) (offset_at s n f s.f)) e in
      let low : o < (n * s.p + f + 1) * s.f = omega (arith, h) in
      let high : (n * s.p + f) * s.f ≤ o + len - 1 = omega (arith, h) in
      let below : o / s.f < n * s.p + f + 1 = (div-lt_iff_lt-mul size).1 low in
      (omega (arith, below), (le-div_iff_mul-le size).1 high)

  pub touched-range : (from to : ℕ) → from ≡ o / s.f - n * s.p → to ≡ min ((o + len - 1) / s.f - n * s.p) (s.p - 1) → n * s.p ≤ (o + len - 1) / s.f
      → flakes_from from to ≡ touched_of s o len n
  unfolding touched_of
  touched-range from to e g h =
      same_bits _ _ (λ f.
      bit-from from to f
      ∙ alike (both (ltb f 64) (both (leb from f) (leb f to))) (both (ltb f s.p) (meets s o len n f))
      (λ yes.
      let inner = both_right (ltb f 64) _ yes in
      let a : from ≤ f = leb-true from f (both_left _ _ inner) in
      let b : f ≤ to = leb-true f to (both_right (leb from f) _ inner) in
      both-on (lt-ltb f s.p (omega (arith, b, g, l.flakes))) (meets_true f (omega (arith, a, e)) (omega (arith, b, g, h))))
      (λ yes.
      let a : f < s.p = ltb-true f s.p (both_left _ _ yes) in
      let m = meets-told f (both_right (ltb f s.p) _ yes) in
      both-on (lt-ltb f 64 (omega (arith, a, l.narrow))) (both-on (le-leb from f (omega (arith, e, m.0))) (le-leb f to (omega (arith, a, g, m.1)))))
      ∙ sym (bit_with s.p (meets s o len n) f))

  -- no flake behind the last
  pub touched_none : (o + len - 1) / s.f < n * s.p → 0 ≡ touched_of s o len n
  unfolding touched_of
  touched_none h =
      same_bits _ _ (λ f.
      bit-empty f
      ∙ alike false (both (ltb f s.p) (meets s o len n f)) (λ no. absurd (off no))
      (λ yes. let m = meets-told f (both_right (ltb f s.p) _ yes) in absurd (omega (arith, h, m.1)))
      ∙ sym (bit_with s.p (meets s o len n) f))
    where
      off : ◌≡◌ {A = Bool} false true → ⊥
      off e = let w : ◌≡◌ {A = ℕ} 0 1 = cc in omega arith

-- the sum compared without being made
pub fits_is : (s : Shape) (o len size : ℕ) → size ≡ within s (capacity s) → len ≤ size → leb o (size - len) ≡ fits_in s o len
unfolding fits_in
fits_is s o len size e h =
    ⊎_elim
    (λ yes. yes ∙ sym (le-leb (o + len) (within s (capacity s)) (omega (arith, leb-true o (size - len) yes, e, h))))
    (λ no. no ∙ sym (lt-leb (o + len) (within s (capacity s)) (omega (arith, leb-false o (size - len) no, e, h))))
    (told (leb o (size - len)))

pub fits_not : (s : Shape) (o len size : ℕ) → size ≡ within s (capacity s) → size < len → false ≡ fits_in s o len
unfolding fits_in
fits_not s o len size e h = sym (lt-leb (o + len) (within s (capacity s)) (omega (arith, e, h)))

pub fits-leb : (s : Shape) (o len : ℕ) → in_limits s ≡ true → fits_in s o len ≡ leb (o + len) (capacity s)
unfolding fits_in
fits-leb s o len limited = ap (λ (x : ℕ). leb (o + len) x) (inside s limited)

within-le : (s : Shape) (x : ℕ) → within s x ≤ x
within-le s x = ⊎_elim (λ e. rw e (omega arith)) (λ e. rw e (omega arith)) (told (in_limits s))

pub fits-within : (d : Drive) (o len : ℕ) {s : Shape} → s ≡ shape_of d → fits_in s o len ≡ true → o + len ≤ capacity (shape_of d)
unfolding fits_in
fits-within d o len es e =
    let s = shape_of d in
    let low = leb-true (o + len) (within s (capacity s)) (ap (λ (x : Shape). fits_in x o len) (sym es) ∙ e) in
    omega (arith, low, within-le s (capacity s))
