-- Each record, tag, node and flake lies in its own part, the parts follow each other, and two cells don't overlap.
use mathlib.Core.Path.{◌≡◌, refl, ap, sym, ◌∙◌}
use Prim.Native.Nat.{ℕ, ◌+◌, ◌*◌, ◌/◌, ◌%◌, ◌≤◌, ◌<◌}
use native.Mathlib.Nat.{mul-le-mul_right, div-lt_iff_lt-mul, div-add-mod', mod-lt}
use native.Mathlib.Omega.{arith}
use lib.Arith.{digits_lt, digits_div, digits_mod}
use Rattle.layout.specs.Shape.{leaves, in_limits, width_of}
use Rattle.layout.specs.Parts.{tags_at, tree_at, flakes_at, length_of, record_at, tag_at, node_at, flake_at}
use Rattle.layout.specs.Spots.{spot_at, offset_at, capacity, nowhere}
use Rattle.layout.specs.declared.Shape.{Shape}
use Rattle.layout.specs.declared.Spot.{Spot}
use mathlib.Core.Bool.{true}
use mathlib.Core.List.{List}
use lib.ListN.{length}
use Rattle.layout.specs.Shaped.{Shaped}
use Rattle.base.specs.Pick.{pick}
use Rattle.base.proofs.PickLaws.{yes}

-- two cells of width w at different places don't overlap
pub apart : (w i j : ℕ) → i < j → i * w + w ≤ j * w
apart w i j h = omega (arith, mul-le-mul_right w h)

-- the number of flake f of nugget n, counted over all nuggets
pub index_lt : (s : Shape) (n f : ℕ) → n < s.n → f < s.p → n * s.p + f < s.n * s.p
index_lt s n f a b = digits_lt a b

-- and it tells them
pub index_told : (p n f m g : ℕ) → f < p → g < p → n * p + f ≡ m * p + g → (n ≡ m) × (f ≡ g)
index_told p n f m g a b e =
    (sym (digits_div n a) ∙ ap (λ (x : ℕ). x / p) e ∙ digits_div m b, sym (digits_mod n a) ∙ ap (λ (x : ℕ). x % p) e ∙ digits_mod m b)

pub record_inside : (s : Shape) (n : ℕ) → n < s.n → record_at s n + width_of s ≤ tags_at s
record_inside s n h = omega (arith, apart (width_of s) n s.n h)

-- a record ends before the next ones begin
pub records-above : (s : Shape) (n m : ℕ) → n < m → record_at s n + width_of s ≤ record_at s m
records-above s n m h = omega (arith, apart (width_of s) n m h)

pub tag-inside : (s : Shape) (n f : ℕ) → n < s.n → f < s.p → tag_at s n f + 16 ≤ tree_at s
tag-inside s n f a b = omega (arith, index_lt s n f a b)

pub node-inside : (s : Shape) (i : ℕ) → 1 ≤ i → i < 2 * leaves s.n → (tree_at s ≤ node_at s i) × (node_at s i + 32 ≤ flakes_at s)
node-inside s i a b = (omega arith, omega arith)

pub flake-inside : (s : Shape) (n f : ℕ) → n < s.n → f < s.p → flake_at s n f + s.f ≤ length_of s
flake-inside s n f a b = omega (arith, mul-le-mul_right s.f (index_lt s n f a b))

-- every part ends inside the volume
pub parts_inside : (s : Shape) → (tags_at s ≤ tree_at s) × (tree_at s ≤ flakes_at s) × (flakes_at s ≤ length_of s)
parts_inside s = (omega arith, omega arith, omega arith)

-- an offset's spot, and the spot's offset, undo each other
pub offset_spot : (s : Shape) (o : ℕ) → offset_at s (spot_at s o).nugget (spot_at s o).flake (spot_at s o).byte ≡ o
offset_spot s o = ap (λ (x : ℕ). x * s.f + o % s.f) (div-add-mod' (o / s.f) s.p) ∙ div-add-mod' o s.f

pub spot_offset : (s : Shape) (n f b : ℕ) → f < s.p → b < s.f → spot_at s (offset_at s n f b) ≡ record { nugget = n; flake = f; byte = b }
spot_offset s n f b h k = rw (digits_div (n * s.p + f) k, digits_mod (n * s.p + f) k, digits_div n h, digits_mod n h) refl

-- an offset below N P F lies in a nugget, a flake and a byte that there are
pub record Inside (s : Shape) (o : ℕ) : Type 0 where
  pub nugget_is : (spot_at s o).nugget < s.n
  pub flake_is : (spot_at s o).flake < s.p
  pub byte_is : (spot_at s o).byte < s.f

pub spot_inside : (s : Shape) (o : ℕ) → 0 < s.p → 0 < s.f → o < capacity s → Inside s o
spot_inside s o p f h =
    record {
      nugget_is = (div-lt_iff_lt-mul p).1 ((div-lt_iff_lt-mul f).1 h);
      flake_is = mod-lt (o / s.f) p;
      byte_is = mod-lt o f;
    }

-- the spot of an offset, in a shape within limits
pub spot_is : (s : Shape) (o : ℕ) {r : Shape} {t : Spot} → t ≡ pick (in_limits r) (spot_at r o) nowhere → r ≡ s → in_limits s ≡ true → t ≡ spot_at s o
spot_is s o et es h = et ∙ ap (λ (x : Shape). pick (in_limits x) (spot_at x o) nowhere) es ∙ yes _ h refl

-- a record lies inside a lent volume
pub record_room : {s : Shape} {v : List ℕ} (n : ℕ) → Shaped s v → n < s.n → record_at s n + width_of s ≤ length v
record_room {s} n l h = rw l.size (omega (arith, record_inside s n h, parts_inside s))
