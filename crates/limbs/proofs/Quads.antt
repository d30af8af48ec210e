-- A number of four 32-bit words: from bytes, to limbs, and back to bytes.
use mathlib.Core.Path.{◌≡◌, refl, ap, sym, ◌∙◌}
use mathlib.Core.Bool.{Bool, true, false}
use mathlib.Core.List.{List, ◌++◌}
use Prim.Native.Nat.{ℕ, ◌+◌, ◌*◌, ◌/◌, ◌%◌, ◌^◌, ◌<◌, ◌≤◌}
use native.Mathlib.Nat.{add_assoc, add_comm}
use native.Mathlib.Omega.{arith}
use lib.Dec.{lit≤}
use lib.ListN.{length, replicate}
use lib.Bits.{bit_or, or_shifted_r}
use lib.Seq.{sets}
use Rattle.std.specs.Int.{from_bool}
use Rattle.base.specs.Lists.{part}
use Rattle.words.specs.Le.{num, le}
use Rattle.words.proofs.LeLaws.{num-split, le_join}
use Rattle.limbs.specs.Limbs.{at, quad, p}

-- the four words of 16 bytes
pub quad-num : (l : List ℕ) (from : ℕ) → from + 16 ≤ length l
    → quad (num (part from 4 l)) (num (part (from + 4) 4 l)) (num (part (from + 8) 4 l)) (num (part (from + 12) 4 l)) ≡ num (part from 16 l)
unfolding quad
quad-num l from h =
    let s1 : num (part from 16 l) ≡ num (part from 4 l) + 2 ^ 32 * num (part (from + 4) 12 l) = num-split l from 4 12 (omega arith) in
    let s2 : num (part (from + 4) 12 l) ≡ num (part (from + 4) 4 l) + 2 ^ 32 * num (part (from + 8) 8 l) =
    rw add_assoc at (num-split l (from + 4) 4 8 (omega arith)) in
    let s3 : num (part (from + 8) 8 l) ≡ num (part (from + 8) 4 l) + 2 ^ 32 * num (part (from + 12) 4 l) =
    rw add_assoc at (num-split l (from + 8) 4 4 (omega arith)) in
    sym (s1 ∙ ap (λ (z : ℕ). num (part from 4 l) + 2 ^ 32 * z) (s2 ∙ ap (λ (z : ℕ). num (part (from + 4) 4 l) + 2 ^ 32 * z) s3))

halves : (a b c d x : ℕ) → a + 2 ^ 32 * b + 2 ^ 64 * (c + 2 ^ 32 * d) + x ≡ quad a b c d + x
unfolding quad
halves a b c d x = omega arith

-- two halves cut into limbs
cut : (lo hi top : ℕ)
    → at (2 ^ 26) (lo % 2 ^ 26) (lo / 2 ^ 26 % 2 ^ 26) (lo / 2 ^ 52 + hi % 2 ^ 14 * 2 ^ 12) (hi / 2 ^ 14 % 2 ^ 26) (hi / 2 ^ 40 + top) ≡ lo + 2 ^ 64 * hi + 2 ^ 104 * top
unfolding at
cut lo hi top =
    let e4 : hi / 2 ^ 14 % 2 ^ 26 + 2 ^ 26 * (hi / 2 ^ 40 + top) ≡ hi / 2 ^ 14 + 2 ^ 26 * top = omega arith in
    let e3 : lo / 2 ^ 52 + hi % 2 ^ 14 * 2 ^ 12 + 2 ^ 26 * (hi / 2 ^ 14 + 2 ^ 26 * top) ≡ lo / 2 ^ 52 + 2 ^ 12 * hi + 2 ^ 52 * top = omega arith in
    let e2 : lo / 2 ^ 26 % 2 ^ 26 + 2 ^ 26 * (lo / 2 ^ 52 + 2 ^ 12 * hi + 2 ^ 52 * top) ≡ lo / 2 ^ 26 + 2 ^ 38 * hi + 2 ^ 78 * top = omega arith in
    rw (e4, e3, e2) (omega arith)

pub from_bool-le : (b : Bool) → from_bool b ≤ 1
from_bool-le true = lit≤ tt
from_bool-le false = lit≤ tt

-- four words cut into limbs, with `one` at bit 128
pub joined : (a b c d one : ℕ) → c < 2 ^ 32 → d < 2 ^ 32
    → at (2 ^ 26) ((a + 2 ^ 32 * b) % 2 ^ 26) ((a + 2 ^ 32 * b) / 2 ^ 26 % 2 ^ 26) ((a + 2 ^ 32 * b) / 2 ^ 52 + (c + 2 ^ 32 * d) % 2 ^ 14 * 2 ^ 12)
    ((c + 2 ^ 32 * d) / 2 ^ 14 % 2 ^ 26) (bit_or ((c + 2 ^ 32 * d) / 2 ^ 40) (one * 2 ^ 24))
    ≡ quad a b c d + 2 ^ 104 * (one * 2 ^ 24)
joined a b c d one hc hd =
    let hi = c + 2 ^ 32 * d in
    let top : bit_or (hi / 2 ^ 40) (one * 2 ^ 24) ≡ hi / 2 ^ 40 + one * 2 ^ 24 = or_shifted_r one 24 (hi / 2 ^ 40) (omega arith) ∙ add_comm (one * 2 ^ 24) (hi / 2 ^ 40) in
    rw (top, cut (a + 2 ^ 32 * b) hi (one * 2 ^ 24)) (halves a b c d (2 ^ 104 * (one * 2 ^ 24)))

-- limbs joined to words
pub unpacked : (a b c d e : ℕ)
    → at (2 ^ 26) a b c d e
    ≡ quad (a + b % 2 ^ 6 * 2 ^ 26) (b / 2 ^ 6 + c % 2 ^ 12 * 2 ^ 20) (c / 2 ^ 12 + d % 2 ^ 18 * 2 ^ 14) (d / 2 ^ 18 + e % 2 ^ 24 * 2 ^ 8 + 2 ^ 32 * (e / 2 ^ 24))
unfolding at quad
unpacked a b c d e =
    let e4 : d / 2 ^ 18 + e % 2 ^ 24 * 2 ^ 8 + 2 ^ 32 * (e / 2 ^ 24) ≡ d / 2 ^ 18 + 2 ^ 8 * e = omega arith in
    let y3 : ℕ = d + 2 ^ 26 * e in
    let e3 : c / 2 ^ 12 + d % 2 ^ 18 * 2 ^ 14 + 2 ^ 32 * (d / 2 ^ 18 + 2 ^ 8 * e) ≡ c / 2 ^ 12 + 2 ^ 14 * y3 = omega arith in
    rw (e4, e3) (above a b c y3)
  where
    above : (a b c y : ℕ)
        → a + 2 ^ 26 * (b + 2 ^ 26 * (c + 2 ^ 26 * y))
        ≡ a + b % 2 ^ 6 * 2 ^ 26 + 2 ^ 32 * (b / 2 ^ 6 + c % 2 ^ 12 * 2 ^ 20 + 2 ^ 32 * (c / 2 ^ 12 + 2 ^ 14 * y))
    above a b c y =
        let e2 : b / 2 ^ 6 + c % 2 ^ 12 * 2 ^ 20 + 2 ^ 32 * (c / 2 ^ 12 + 2 ^ 14 * y) ≡ b / 2 ^ 6 + 2 ^ 20 * (c + 2 ^ 26 * y) = omega arith in
        rw e2 (omega arith)

le-none : (d k : ℕ) → le 4 d ++ le 0 k ≡ le 4 d
unfolding le
le-none d k = refl

-- the four words' bytes
pub le-quad : (a b c d k : ℕ) → a < 2 ^ 32 → b < 2 ^ 32 → c < 2 ^ 32 → d < 2 ^ 32
    → le 16 (quad a b c (d + 2 ^ 32 * k)) ≡ le 4 a ++ (le 4 b ++ (le 4 c ++ le 4 d))
unfolding quad
le-quad a b c d k ha hb hc hd =
    le_join 4 12 a (b + 2 ^ 32 * (c + 2 ^ 32 * (d + 2 ^ 32 * k))) ha
    ∙ ap (λ (z : List ℕ). le 4 a ++ z)
    (le_join 4 8 b (c + 2 ^ 32 * (d + 2 ^ 32 * k)) hb
    ∙ ap (λ (z : List ℕ). le 4 b ++ z) (le_join 4 4 c (d + 2 ^ 32 * k) hc ∙ ap (λ (z : List ℕ). le 4 c ++ z) (le_join 4 0 d k hd ∙ le-none d k)))

four : 2 ^ 32 * 2 ^ 32 * 2 ^ 32 * 2 ^ 32 * 4 ≡ p + 5
unfolding p
four = refl

-- a multiple of 2^130 stands above the four words
quad_more : (C P a b c d k q : ℕ) → C * C * C * C * 4 ≡ P + 5
    → a + C * (b + C * (c + C * (d + C * k))) + (P + 5) * q ≡ a + C * (b + C * (c + C * (d + C * (k + 4 * q))))
quad_more C P a b c d k q e = omega (arith, ap (λ (z : ℕ). z * q) e)

pub quad-over : (a b c d k q : ℕ) → quad a b c (d + 2 ^ 32 * k) + (p + 5) * q ≡ quad a b c (d + 2 ^ 32 * (k + 4 * q))
unfolding quad
quad-over a b c d k q = quad_more (2 ^ 32) p a b c d k q four

abbrev zeros : List ℕ
zeros = replicate 16 0

-- four words stored one behind the other
pub laid : (a b c d : ℕ) → sets (sets (sets (sets zeros 0 (le 4 a)) 4 (le 4 b)) 8 (le 4 c)) 12 (le 4 d) ≡ le 4 a ++ (le 4 b ++ (le 4 c ++ le 4 d))
unfolding le
laid a b c d = refl
