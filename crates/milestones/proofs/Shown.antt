-- What is read off the printed line: its numbers, and "A fleet shows 100.00 only if every drive has nothing left".
use mathlib.Core.Path.{◌≡◌, refl, sym, ap, ◌∙◌}
use mathlib.Core.Bool.{true}
use mathlib.Core.List.{List, [], ◌∷◌, ◌++◌, append_assoc, map}
use Prim.Native.Nat.{ℕ, zero, suc, ◌+◌, ◌-◌, ◌*◌, ◌/◌, ◌%◌, ◌^◌, ◌<◌, ◌≤◌}
use native.Mathlib.Nat.{div-div-eq-div-mul}
use native.Mathlib.Omega.{arith}
use borrow.Author.Tests.{ne_eqb}
use lib.ListN.{length, get_or, length-map}
use Rattle.base.specs.Lists.{every}
use Rattle.base.proofs.PickLaws.{both-on}
use Rattle.line.specs.Decimal.{digits, width_in, decimal}
use Rattle.line.specs.Lines.{newline, share_text, report_text}
use Rattle.line.specs.Reading.{up_to, past, field_at, value_from, decimal_value}
use Rattle.line.proofs.ReadLaws.{free, up_to_lem, past_to, Far, decimal-free, far_newline, far_space, decimal_value_lem}
use Rattle.line.proofs.FieldLaws.{Named, fields_text, value_at, plain, fields_told, fields_free, share-free}
use Rattle.reports.specs.Counts.{share_of}
use Rattle.reports.proofs.ShareLaws.{share-le}
use Rattle.standings.specs.declared.Standing.{Standing}
use Rattle.standings.specs.Standing.{standing_text, standing_in, taken}
use Rattle.totals.specs.declared.Fleet.{Fleet}
use Rattle.totals.specs.Fleet.{fleet_of, drive_at}
use Rattle.fleets.specs.Lines.{lines_of, closed_line, fleet_line}
use Rattle.fleets.specs.Claims.{drives_in, AllTaken}
use Rattle.fleets.proofs.GatherLaws.{line-possible}
use Rattle.fleets.proofs.OpenLaws.{fleet_closed}
use Rattle.totals.proofs.FullLaws.{AllPossible, fleet_full}

-- a share is read back: whole percents up to the point, hundredths behind it
abbrev share_in : List ℕ → ℕ
share_in l = decimal_value (up_to 46 l) * 100 + decimal_value (past 46 l)

far_point : Far 46
far_point x h = ne_eqb (48 + x) 46 (λ e. omega (arith, e))

share_back : (h : ℕ) → h ≤ 10000 → share_in (share_text h) ≡ h
unfolding share_text value_from
share_back h l =
    let a = decimal (h / 100) in
    let tail = (48 + h / 10 % 10) ∷ (48 + h % 10) ∷ [] in
    let tens : h / 10 / 10 ≡ h / 100 = div-div-eq-div-mul h 10 10 in
    rw (up_to_lem 46 a tail (decimal-free 46 (h / 100) far_point), past_to 46 a tail (decimal-free 46 (h / 100) far_point), decimal_value_lem (h / 100) (omega arith)) (omega (arith, tens))

-- the fleet's line as a row
module _ (f : Fleet) where
  abbrev t : Standing
  t = f.total

  abbrev fields : List Named
  fields =
      (100 ∷ 114 ∷ 105 ∷ 118 ∷ 101 ∷ 115 ∷ [], decimal f.drives)
      ∷ (110 ∷ 117 ∷ 103 ∷ 103 ∷ 101 ∷ 116 ∷ 115 ∷ [], decimal t.n)
      ∷ (109 ∷ 111 ∷ 118 ∷ 101 ∷ 100 ∷ [], decimal t.counts.moved)
      ∷ (108 ∷ 101 ∷ 102 ∷ 116 ∷ [], decimal (t.n - t.counts.moved))
      ∷ (102 ∷ 108 ∷ 97 ∷ 107 ∷ 101 ∷ 115 ∷ [], decimal t.counts.flakes)
      ∷ (115 ∷ 104 ∷ 97 ∷ 114 ∷ 101 ∷ [], share_text (share_of t.n t.counts))
      ∷ (100 ∷ 111 ∷ 110 ∷ 101 ∷ [], decimal t.counts.done)
      ∷ []

  abbrev last : Named
  last = (108 ∷ 97 ∷ 115 ∷ 116 ∷ [], decimal f.last)

  closed_row : closed_line f ≡ fields_text fields last ++ newline
  unfolding closed_line standing_text report_text fields_text
  closed_row = simp append_assoc

  row_plain : every plain fields ≡ true
  unfolding every free
  row_plain =
      both-on (decimal-free 32 f.drives far_space)
      (both-on (decimal-free 32 t.n far_space)
      (both-on (decimal-free 32 t.counts.moved far_space)
      (both-on (decimal-free 32 (t.n - t.counts.moved) far_space)
      (both-on (decimal-free 32 t.counts.flakes far_space)
      (both-on (share-free 32 (share_of t.n t.counts) far_space refl) (both-on (decimal-free 32 t.counts.done far_space) refl))))))

  row-free : free 10 (fields_text fields last) ≡ true
  unfolding every free
  row-free =
      fields_free 10 fields last refl refl
      (both-on (decimal-free 10 f.drives far_newline)
      (both-on (decimal-free 10 t.n far_newline)
      (both-on (decimal-free 10 t.counts.moved far_newline)
      (both-on (decimal-free 10 (t.n - t.counts.moved) far_newline)
      (both-on (decimal-free 10 t.counts.flakes far_newline)
      (both-on (share-free 10 (share_of t.n t.counts) far_newline refl) (both-on (decimal-free 10 t.counts.done far_newline) refl)))))))
      (decimal-free 10 f.last far_newline)

  -- field k of the line
  closed_field : (k : ℕ) → field_at k (up_to 10 (closed_line f)) ≡ value_at k fields last
  unfolding free
  closed_field k =
      ap (λ (l : List ℕ). field_at k (up_to 10 l)) closed_row
      ∙ ap (λ (l : List ℕ). field_at k l) (up_to_lem 10 (fields_text fields last) [] row-free)
      ∙ fields_told k fields last row_plain (decimal-free 32 f.last far_space)

  pub last-shown : f.last < 10 ^ 10 → decimal_value (field_at 7 (up_to 10 (closed_line f))) ≡ f.last
  unfolding value_at
  last-shown h = ap decimal_value (closed_field 7) ∙ decimal_value_lem f.last h

  pub share-shown : field_at 5 (up_to 10 (closed_line f)) ≡ share_text (share_of f.total.n f.total.counts)
  unfolding value_at
  share-shown = closed_field 5

-- the drives of lines that are all taken are possible
all-possible : (ls : List (List ℕ)) → ((k : ℕ) → k < length ls → taken (get_or ls k []) ≡ true) → AllPossible (map standing_in ls)
all-possible [] each k h = absurd (omega arith)
all-possible (l ∷ ls) each zero h = line-possible l (each 0 (omega arith))
all-possible (l ∷ ls) each (suc k) h = all-possible ls (λ j s. each (suc j) (omega arith)) k (omega arith)

-- `100.00`
abbrev t_full : List ℕ
t_full = 49 ∷ 48 ∷ 48 ∷ 46 ∷ 48 ∷ 48 ∷ []

hundred : share_text 10000 ≡ t_full
unfolding share_text decimal digits width_in
hundred = refl

-- "A fleet shows 100.00 only if every drive has nothing left.", and then: what stands behind `share=` in the printed line
pub full-shown : (i : List ℕ) → 1 ≤ length (lines_of i) → AllTaken 256 (lines_of i)
    → (field_at 5 (up_to 10 (fleet_line i)) ≡ 49 ∷ 48 ∷ 48 ∷ 46 ∷ 48 ∷ 48 ∷ [] → (k : ℕ) → k < length (lines_of i) → (drive_at (drives_in i) k).n - (drive_at (drives_in i) k).counts.moved ≡ 0)
    × (((k : ℕ) → k < length (lines_of i) → (drive_at (drives_in i) k).n - (drive_at (drives_in i) k).counts.moved ≡ 0) → field_at 5 (up_to 10 (fleet_line i)) ≡ 49 ∷ 48 ∷ 48 ∷ 46 ∷ 48 ∷ 48 ∷ [])
unfolding value_from up_to past
full-shown i some all =
    let ts = drives_in i in
    let f = fleet_of ts in
    let share = share_of f.total.n f.total.counts in
    let long : length ts ≡ length (lines_of i) = length-map (lines_of i) standing_in in
    let more : 1 ≤ length ts = rw long some in
    let full = fleet_full ts (all-possible (lines_of i) all.each) more in
    let is : field_at 5 (up_to 10 (fleet_line i)) ≡ share_text share = ap (λ (l : List ℕ). field_at 5 (up_to 10 l)) (fleet_closed i some all) ∙ share-shown f in
    let back : share_text share ≡ t_full → share ≡ 10000 = λ e. sym (share_back share (share-le f.total.n f.total.counts)) ∙ ap share_in e in (
      λ e k h. full.0 (back (sym is ∙ e)) k (rw long h),
      λ e. is ∙ ap share_text (full.1 (λ k h. e k (rw long at h))) ∙ hundred,
    )
