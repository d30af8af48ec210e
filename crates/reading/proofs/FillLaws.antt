-- The buffer filled chunk by chunk: flakes in a nugget, nuggets in the range.
use mathlib.Core.Path.{◌≡◌, refl, sym, ap, ◌∙◌}
use mathlib.Core.List.{List, ◌++◌}
use Prim.Native.Nat.{ℕ, suc, ◌+◌, ◌-◌, ◌*◌, ◌/◌, ◌%◌, ◌<◌, ◌≤◌, min, max}
use native.Mathlib.Nat.{div-add-mod', mod-lt, div-lt_iff_lt-mul, mul-le-mul, le_refl, lt-div-mul-add, div-mul-le_self, lt_of_mul-lt-mul_right}
use Rattle.std.specs.Int.{div_ceil}
use Rattle.std.proofs.lemmas.Grind.{div_ceil_times}
use Rattle.std.proofs.lemmas.List.{nil_from_length}
use native.Mathlib.Omega.{arith}
use borrow.Rule.Slice.PartMut.{put_mid, Post-is}
use lib.Arith.{digits_div, digits_mod}
use lib.ListN.{get_or, take, drop, length}
use Rattle.base.specs.Lists.{part, tab}
use Rattle.base.proofs.TabLaws.{length-tab, tab_ext, tab-none, tab-all, tab-part, part-tab}
use Rattle.layout.specs.declared.Shape.{Shape}
use Rattle.layout.specs.declared.Spot.{Spot}
use Rattle.layout.specs.Spots.{capacity, offset_at}
use Rattle.layout.proofs.Limits.{limits}
use Rattle.layout.proofs.Places.{spot_offset}
use Rattle.drive.specs.declared.Drive.{Drive}
use Rattle.drive.specs.Drive.{shape_of}
use Rattle.nuggets.specs.declared.Nugget.{Nugget}
use Rattle.nuggets.specs.Nugget.{nugget_of, contents_in, contents_of, byte_of}
use Rattle.nuggets.proofs.PieceLaws.{length-contents}
use Rattle.reading.specs.Read.{byte_in}
use Rattle.layout.specs.Shaped.{Shaped}

-- n more entries, laid from place m on
pub chunk : (f : ℕ → ℕ) (d : List ℕ) (m n : ℕ) {r z : List ℕ} → r ≡ tab m f ++ drop m d → z ≡ tab n (λ j. f (m + j))
    → put_mid m (m + n - m) r z ≡ tab (m + n) f ++ drop (m + n) d
chunk f d m n {r} {z} er ez =
    ap (λ (x : List ℕ). take m r ++ (z ++ x)) (Post-is m (m + n) r (omega arith)) ∙ tab-part f d m n er ez

-- how much of the range is laid once all before place x is
abbrev pub reached : ℕ → ℕ → ℕ → ℕ
reached from end x = min (max x from) end - from

-- pieces of this size that a range meets, piece i from place i * size on
module _ (size : ℕ) (some : 0 < size) where
  pub piece-before : (end i : ℕ) {k : ℕ} → k ≡ div_ceil end size → i < k → i * size < end
  piece-before end i ek h =
      let m : suc i * size ≤ div_ceil end size * size = mul-le-mul (rw ek at h) (le_refl size) in
      omega (arith, m, (div_ceil_times end size some).1)

  pub piece-after : (from i : ℕ) → from / size ≤ i → from < i * size + size
  piece-after from i h =
      let m : from / size * size ≤ i * size = mul-le-mul h (le_refl size) in
      omega (arith, m, lt-div-mul-add {a = from} some)

  -- the walk's start, turn and end
  pub walk-starts : (g : ℕ → ℕ) (d : List ℕ) (from n : ℕ) → d ≡ tab (reached from (from + n) (from / size * size)) g ++ drop (reached from (from + n) (from / size * size)) d
  walk-starts g d from n =
      let e : reached from (from + n) (from / size * size) ≡ 0 = omega (arith, div-mul-le_self from size) in
      rw e (tab-none g d)

  pub walk_on : (g : ℕ → ℕ) (d : List ℕ) (from end i : ℕ) {start stop : ℕ} {r z : List ℕ} → from ≤ end → from < i * size + size → i * size < end
      → start ≡ max from (i * size) → stop ≡ min end (i * size + size) → r ≡ tab (reached from end (i * size)) g ++ drop (reached from end (i * size)) d
      → z ≡ tab (stop - start) (λ j. g (start - from + j))
      → put_mid (start - from) (stop - from - (start - from)) r z ≡ tab (reached from end ((i + 1) * size)) g ++ drop (reached from end ((i + 1) * size)) d
  walk_on g d from end i {start} {stop} inside after before es et er ez =
      let m = start - from in
      let n = stop - start in
      let a : reached from end (i * size) ≡ m = omega (arith, es, inside, before) in
      let b : stop - from - m ≡ m + n - m = omega (arith, es, et, inside, after, before) in
      let e : reached from end ((i + 1) * size) ≡ m + n = omega (arith, es, et, inside, after, before) in
      rw (b, e) (chunk g d m n (rw a at er) ez)

  pub walk_ends : (g : ℕ → ℕ) (d : List ℕ) (from i : ℕ) {k : ℕ} {r : List ℕ} → k ≡ div_ceil (from + length d) size → k ≤ i
      → r ≡ tab (reached from (from + length d) (i * size)) g ++ drop (reached from (from + length d) (i * size)) d → r ≡ tab (length d) g
  walk_ends g d from i ek h er =
      let m : div_ceil (from + length d) size * size ≤ i * size = mul-le-mul (rw ek at h) (le_refl size) in
      tab-all g d (reached from (from + length d) (i * size)) (length d) er (omega (arith, m, (div_ceil_times (from + length d) size some).0)) (le_refl (length d))

module _ (s : Shape) (v : List ℕ) (g : Nugget) where
  in_flake : (f b : ℕ) → b < s.f → byte_in s v g (f * s.f + b) ≡ get_or (contents_in s v g f) b 0
  unfolding byte_in
  in_flake f b h = rw (digits_div f h, digits_mod f h)

  -- a piece of a flake is so many bytes of the nugget
  pub piece_bytes : (from at f b k n : ℕ) {z : List ℕ} → Shaped s v → g.lock.number < s.n → f < s.p → f * s.f + b ≡ from + at → b + n ≤ s.f → k ≡ n
      → z ≡ part b k (contents_in s v g f) → z ≡ tab n (λ j. byte_in s v g (from + (at + j)))
  piece_bytes from at f b k n lent p q whole h ek ez =
      ez
      ∙ ap (λ (x : ℕ). part b x (contents_in s v g f)) ek
      ∙ part-tab b n (contents_in s v g f) (rw (length-contents s v g f lent p q) h)
      ∙ tab_ext n (λ j. get_or (contents_in s v g f) (b + j) 0) (λ j. byte_in s v g (from + (at + j))) (λ j l.
      let place : f * s.f + (b + j) ≡ from + (at + j) = omega (arith, whole) in
      sym (in_flake f (b + j) (omega (arith, l, h))) ∙ ap (λ (x : ℕ). byte_in s v g x) place)

-- byte r of nugget m
in_nugget_lem : (d : Drive) (v : List ℕ) (m r : ℕ) → 0 < d.f → r < d.p * d.f → byte_of d v (m * (d.p * d.f) + r) ≡ byte_in (shape_of d) v (nugget_of d v m) r
unfolding byte_of byte_in
in_nugget_lem d v m r size h =
    let s = shape_of d in
    let f = r / d.f in
    let b = r % d.f in
    let whole : f * d.f + b ≡ r = div-add-mod' r d.f in
    let place : m * (d.p * d.f) + r ≡ offset_at s m f b = omega (arith, whole) in
    ap (λ (x : ℕ). byte_of d v x) place
    ∙ ap (λ (t : Spot). get_or (contents_of d v t.nugget t.flake) t.byte 0) (spot_offset s m f b ((div-lt_iff_lt-mul size).1 h) (mod-lt r size))

-- a nugget that the range meets
pub record Met (d : Drive) (o end n : ℕ) : Type 0 where
  pub some : 0 < d.p * d.f
  pub before : n * (d.p * d.f) < end
  pub after : o < n * (d.p * d.f) + d.p * d.f
  pub inside : n < d.n

pub nuggets_wide : (d : Drive) (v : List ℕ) → Shaped (shape_of d) v → 0 < d.p * d.f
nuggets_wide d v lent =
    let m = limits (shape_of d) lent.limited in
    let wide : 1 * 64 ≤ d.p * d.f = mul-le-mul m.flakes m.wide in
    omega (arith, wide)

pub nugget_met : (d : Drive) (v : List ℕ) (o end n : ℕ) {k : ℕ} → Shaped (shape_of d) v → end ≤ capacity (shape_of d) → k ≡ div_ceil end (d.p * d.f) → n < k → o / (d.p * d.f) ≤ n
    → Met d o end n
nugget_met d v o end n lent room ek h past =
    let some = nuggets_wide d v lent in
    let before = piece-before (d.p * d.f) some end n ek h in
    record {
      some = some;
      before = before;
      after = piece-after (d.p * d.f) some o n past;
      inside = lt_of_mul-lt-mul_right (d.p * d.f) (omega (arith, before, room));
    }

-- so many bytes of a nugget are bytes of the range
pub nugget-bytes : (d : Drive) (v : List ℕ) (o at m r k n : ℕ) {s : Shape} {g : Nugget} {z : List ℕ} → 0 < d.f → m * (d.p * d.f) + r ≡ o + at → r + n ≤ d.p * d.f → k ≡ n
    → s ≡ shape_of d → g ≡ nugget_of d v m → z ≡ tab k (λ i. byte_in s v g (r + i))
    → z ≡ tab n (λ j. byte_of d v (o + (at + j)))
nugget-bytes d v o at m r k n size whole h ek es eg ez =
    let w = d.p * d.f in
    ez
    ∙ rw (ek, es, eg) refl
    ∙ tab_ext n (λ i. byte_in (shape_of d) v (nugget_of d v m) (r + i)) (λ j. byte_of d v (o + (at + j))) (λ j l.
    let place : m * w + (r + j) ≡ o + (at + j) = omega (arith, whole) in
    sym (in_nugget_lem d v m (r + j) size (omega (arith, l, h))) ∙ ap (λ (x : ℕ). byte_of d v x) place)

-- an empty buffer is filled as it stands
pub fills-none : (f : ℕ → ℕ) (b : List ℕ) → length b ≡ 0 → b ≡ tab (length b) f
fills-none f b e = nil_from_length b e ∙ sym (nil_from_length (tab (length b) f) (length-tab (length b) f ∙ e))
