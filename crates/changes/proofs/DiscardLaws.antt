-- What an accepted discard says of drive and volume, what it stores, and which offsets lie in its range.
use mathlib.Core.Path.{◌≡◌, refl, sym, ap, ◌∙◌}
use mathlib.Core.Bool.{Bool, true, false, not}
use mathlib.Core.Logic.{◌⊎◌, inl, inr}
use mathlib.Core.List.{List, []}
use Prim.Native.Nat.{ℕ, ◌+◌, ◌-◌, ◌*◌, ◌<◌, ◌≤◌}
use native.Mathlib.Nat.{mul-le-mul_right}
use native.Mathlib.Omega.{arith}
use lib.Dec.{eqb, leb, ltb}
use borrow.Author.Tests.{eqb-false, leb-true, ltb-true, ltb-false, le-leb, lt-ltb}
use Rattle.base.specs.Pick.{both}
use Rattle.base.proofs.PickLaws.{told, clash, no, both_left, both_right, both-on, both_no}
use Rattle.layout.specs.declared.Shape.{Shape}
use Rattle.layout.specs.Shape.{is_one}
use Rattle.layout.specs.Shaped.{Shaped}
use Rattle.layout.specs.Spots.{offset_at}
use Rattle.layout.proofs.Places.{apart, index_told}
use Rattle.answers.specs.Answer as A
use Rattle.answers.specs.Numbers.{accepts}
use Rattle.answers.proofs.StageLaws.{passed, both_stages, spared, accepted_is}
use Rattle.records.specs.declared.Way.TheVariants.{Clear}
use Rattle.records.specs.Journal.{flake_range}
use Rattle.records.specs.Listing.{Entry}
use Rattle.records.specs.Record.{record_of}
use Rattle.records.proofs.ListingLaws.{pads-clear}
use Rattle.drive.specs.declared.Drive.{Drive}
use Rattle.drive.specs.Drive.{shape_of, counter_top}
use Rattle.drive.specs.Opening.{opening_of}
use Rattle.drive.proofs.OpeningLaws.{opening_lent}
use Rattle.nuggets.specs.Nugget.{contents_of}
use Rattle.nuggets.specs.Tests.{path_for}
use Rattle.changes.specs.Laid.{laid}
use Rattle.changes.specs.Change.{pads_for, marked, marked_to, tended, worked}
use Rattle.changes.specs.Discard.{range_fits, clears_none, clear_tests, discard_answer, clears, discard_ways, discard_work, discard_done, discard_volume, discards_at}
use Rattle.changes.proofs.SweepLaws.{only_pads, only_marks, only_tends}

-- what an accepted discard says
pub record Discards (d : Drive) (v : List ℕ) (n first count : ℕ) : Type 0 where
  pub opens : opening_of d v ≡ A.Accepted
  pub lent : Shaped (shape_of d) v
  pub later : is_one (shape_of d) ≡ false
  pub inside : n < d.n
  pub few : first + count ≤ d.p
  pub path : path_for d v n ≡ A.Accepted

pub discard-told : (d : Drive) (v : List ℕ) (n first count : ℕ) → accepts (discard_answer d v n first count) ≡ true → Discards d v n first count
unfolding discard_answer clear_tests range_fits
discard-told d v n first count e =
    let opened = both_stages (opening_of d v) _ e in
    let later = spared (is_one (shape_of d)) A.State _ refl opened.1 in
    let fits = passed (both (ltb n d.n) (leb (first + count) d.p)) _ A.PastEnd refl later.1 in
    let path = both_stages (path_for d v n) _ fits.1 in
    record {
      opens = accepted_is (opening_of d v) opened.0;
      lent = opening_lent d v opened.0;
      later = later.0;
      inside = ltb-true n d.n (both_left (ltb n d.n) (leb (first + count) d.p) fits.0);
      few = leb-true (first + count) d.p (both_right (ltb n d.n) (leb (first + count) d.p) fits.0);
      path = accepted_is (path_for d v n) path.0;
    }

-- "13 unless nothing is cleared"
pub clears-room : (d : Drive) (v : List ℕ) (n first count : ℕ) → clears d v n first count ≡ true → d.counter ≡ counter_top → ⊥
unfolding discard_answer clear_tests range_fits
clears-room d v n first count e =
    let accepted = both_left (accepts (discard_answer d v n first count)) (not (clears_none d v n first count)) e in
    let some = off (clears_none d v n first count) (both_right (accepts (discard_answer d v n first count)) (not (clears_none d v n first count)) e) in
    let opened = both_stages (opening_of d v) _ accepted in
    let later = spared (is_one (shape_of d)) A.State _ refl opened.1 in
    let fits = passed (both (ltb n d.n) (leb (first + count) d.p)) _ A.PastEnd refl later.1 in
    let path = both_stages (path_for d v n) _ fits.1 in
    let tests = ap accepts (sym (no {b = clears_none d v n first count} A.Accepted some refl)) ∙ path.1 in
    eqb-false d.counter counter_top (spared (eqb d.counter counter_top) A.CounterTop A.Accepted refl tests).0
  where
    off : (b : Bool) → not b ≡ true → b ≡ false
    off true h = absurd (clash h refl)
    off false h = refl

-- where nothing is cleared drive and volume come back to the bit, whatever is answered
module _ (d : Drive) (v : List ℕ) (n first count : ℕ) where
  pub clears_off : clears d v n first count ≡ false
      → (discard_done d v n first count ≡ record { answer = discard_answer d v n first count; drive = d }) × (discard_volume d v n first count ≡ v)
  unfolding discard_done discard_volume
  clears_off off = (rw off refl, rw off refl)

  pub clears_not : clears_none d v n first count ≡ true → clears d v n first count ≡ false
  clears_not none = rw none (both_no (accepts (discard_answer d v n first count)))

  pub discard-idle : clears_none d v n first count ≡ true
      → (discard_done d v n first count ≡ record { answer = discard_answer d v n first count; drive = d }) × (discard_volume d v n first count ≡ v)
  discard-idle none = clears_off (clears_not none)

-- nothing is listed, and the record, its leaf and its path are all that is stored before the head
module _ (d : Drive) (v : List ℕ) (n first count : ℕ) (h : n < d.n) where
  pub discard-pads : pads_for d v (discard_ways n first count) ≡ []
  discard-pads =
      only_pads n d.n h (Clear (flake_range first count)) d.p (record_of (shape_of d) v) d.present
      ∙ pads-clear d.p (flake_range first count) n (record_of (shape_of d) v n) d.present

  pub discard_lays : v ≡ laid (shape_of d) d.salt (contents_of d v) (pads_for d v (discard_ways n first count)) v
  unfolding laid
  discard_lays = sym (ap (λ (es : List Entry). laid (shape_of d) d.salt (contents_of d v) es v) discard-pads)

  pub discard_works : {y z : List ℕ} {s : Shape} → y ≡ marked (shape_of d) d.epoch (Clear (flake_range first count)) (record_of (shape_of d) v n) n v
      → s ≡ shape_of d → z ≡ tended s (Clear (flake_range first count)) n y → z ≡ discard_work d v n first count
  unfolding worked
  discard_works {y} p r q =
      let way = Clear (flake_range first count) in
      let w = laid (shape_of d) d.salt (contents_of d v) (pads_for d v (discard_ways n first count)) v in
      q
      ∙ ap (λ (s : Shape). tended s way n y) r
      ∙ ap (λ (u : List ℕ). tended (shape_of d) way n u)
      (p ∙ ap (λ (u : List ℕ). marked (shape_of d) d.epoch way (record_of (shape_of d) v n) n u) discard_lays ∙ sym (only_marks n d.n h way (shape_of d) d.epoch v w))
      ∙ sym (only_tends n d.n h way (shape_of d) (marked_to (shape_of d) d.epoch (discard_ways n first count) v d.n w))

-- a byte of a flake lies in the range exactly if the flake does
module _ (s : Shape) (n first count m f b : ℕ) (few : first + count ≤ s.p) (low : f < s.p) (byte : b < s.f) where
  abbrev own : ℕ
  own = n * s.p + first

  abbrev cell : ℕ
  cell = m * s.p + f

  pub range_in : m ≡ n → first ≤ f → f < first + count → discards_at s n first count (offset_at s m f b) ≡ true
  unfolding discards_at
  range_in e from to =
      let same : m * s.p ≡ n * s.p = ap (λ (k : ℕ). k * s.p) e in
      let up : own * s.f ≤ cell * s.f = mul-le-mul_right s.f (omega (arith, same, from)) in
      let down : cell * s.f + s.f ≤ (n * s.p + (first + count)) * s.f = apart s.f cell (n * s.p + (first + count)) (omega (arith, same, to)) in
      both-on (le-leb (offset_at s n first 0) (offset_at s m f b) (omega (arith, up))) (lt-ltb (offset_at s m f b) (offset_at s n (first + count) 0) (omega (arith, down, byte)))

  inside : own ≤ cell → cell < n * s.p + (first + count) → (m ≡ n) × (first ≤ f) × (f < first + count)
  inside a z =
      let t = index_told s.p m f n (cell - n * s.p) low (omega (arith, z, few, a)) (omega (arith, a)) in
      (t.0, omega (arith, t.1, a), omega (arith, t.1, a, z))

  pub range-told : discards_at s n first count (offset_at s m f b) ≡ true → (m ≡ n) × (first ≤ f) × (f < first + count)
  unfolding discards_at
  range-told e =
      let from = leb-true (offset_at s n first 0) (offset_at s m f b) (both_left (leb (offset_at s n first 0) (offset_at s m f b)) _ e) in
      let to = ltb-true (offset_at s m f b) (offset_at s n (first + count) 0) (both_right (leb (offset_at s n first 0) (offset_at s m f b)) _ e) in
      inside (above (told (ltb cell own)) from) (below (told (ltb cell (n * s.p + (first + count)))) to)
    where
      above : (ltb cell own ≡ true) ⊎ (ltb cell own ≡ false) → offset_at s n first 0 ≤ offset_at s m f b → own ≤ cell
      above (inl d) from = absurd (omega (arith, apart s.f cell own (ltb-true cell own d), from, byte))
      above (inr d) from = ltb-false cell own d

      below : (ltb cell (n * s.p + (first + count)) ≡ true) ⊎ (ltb cell (n * s.p + (first + count)) ≡ false) → offset_at s m f b < offset_at s n (first + count) 0
          → cell < n * s.p + (first + count)
      below (inl d) to = ltb-true cell (n * s.p + (first + count)) d
      below (inr d) to =
          let up : (n * s.p + (first + count)) * s.f ≤ cell * s.f = mul-le-mul_right s.f (ltb-false cell (n * s.p + (first + count)) d) in
          absurd (omega (arith, up, to))
