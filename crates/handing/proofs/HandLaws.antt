-- The tests before the paths, by what the code did, what they say once they accept, and what an export leaves.
use mathlib.Core.Path.{◌≡◌, refl, sym, ap, ◌∙◌}
use mathlib.Core.Bool.{Bool, true, false}
use mathlib.Core.List.{List}
use Prim.Native.Nat.{ℕ, ◌%◌, ◌^◌, ◌<◌}
use native.Mathlib.Omega.{arith}
use lib.Dec.{eqb}
use lib.ListN.{length}
use borrow.Author.Tests.{eq-eqb, ne_eqb, eqb-true}
use Rattle.base.specs.Lists.{same}
use Rattle.base.proofs.PickLaws.{yes, no, both-on, both_off, both_left, both_right}
use Rattle.layout.specs.declared.Shape.{Shape}
use Rattle.layout.specs.Shape.{within}
use Rattle.layout.specs.Spots.{capacity}
use Rattle.layout.specs.Shaped.{Shaped}
use Rattle.layout.proofs.Limits.{limits, inside, capacity-le}
use Rattle.answers.specs.Answer.{Answer}
use Rattle.answers.specs.Answer as A
use Rattle.answers.specs.Numbers.{accepts}
use Rattle.answers.proofs.StageLaws.{goes_on, stops, both_stages, passed, spared}
use Rattle.drive.specs.declared.Drive.{Drive}
use Rattle.drive.specs.Drive.{shape_of}
use Rattle.drive.specs.Opening.{opening_of}
use Rattle.drive.proofs.OpeningLaws.{opening_lent}
use Rattle.reading.specs.Read.{read_answer, read_buffer}
use Rattle.sectors.specs.Sectors.{encrypted_from}
use Rattle.handing.specs.Handing.{in_sectors, keys_answer, hand_answer, export_answer, export_buffer}

module _ (s : Shape) (len : ℕ) {w : ℕ} (ew : w ≡ within s (capacity s)) where
  pub sectors_by : w % 512 ≡ 0 → eqb len w ≡ in_sectors s len
  unfolding in_sectors
  sectors_by h = ap (λ (x : ℕ). eqb len x) ew ∙ sym (both-on (eq-eqb _ 0 (ap (λ (x : ℕ). x % 512) (sym ew) ∙ h)) refl)

  pub sectors_not : (w % 512 ≡ 0 → ⊥) → false ≡ in_sectors s len
  unfolding in_sectors
  sectors_not h = sym (both_off _ (ne_eqb _ 0 (λ e. h (ap (λ (x : ℕ). x % 512) ew ∙ e))))

-- the answer, test by test
module _ (d : Drive) (v one two : List ℕ) (len : ℕ) {a : Answer} (ea : a ≡ opening_of d v) where
  pub hand_closed : accepts a ≡ false → a ≡ hand_answer d v one two len
  unfolding hand_answer
  hand_closed h = ea ∙ sym (stops (opening_of d v) _ (ap accepts (sym ea) ∙ h))

  pub hand_then : accepts a ≡ true → {s : Shape} {fits twice : Bool} {r : Answer} → s ≡ shape_of d → fits ≡ in_sectors s len → twice ≡ same one two → r ≡ keys_answer fits twice
      → r ≡ hand_answer d v one two len
  unfolding hand_answer
  hand_then h es ef et er = er ∙ rw (ef, et, es) refl ∙ sym (goes_on (opening_of d v) _ (ap accepts (sym ea) ∙ h))

-- what they say once they accept
pub record HandGranted (d : Drive) (v one two : List ℕ) (len : ℕ) : Type 0 where
  pub opens : accepts (opening_of d v) ≡ true
  pub lent : Shaped (shape_of d) v
  pub whole : len ≡ capacity (shape_of d)
  pub even : len % 512 ≡ 0
  pub differ : same one two ≡ false

pub hand_told : (d : Drive) (v one two : List ℕ) (len : ℕ) → accepts (hand_answer d v one two len) ≡ true → HandGranted d v one two len
unfolding hand_answer in_sectors
hand_told d v one two len h =
    let stages = both_stages (opening_of d v) _ h in
    let l = opening_lent d v stages.0 in
    let t = passed (in_sectors (shape_of d) len) _ A.Length refl stages.1 in
    let is : within (shape_of d) (capacity (shape_of d)) ≡ capacity (shape_of d) = inside (shape_of d) l.limited in
    let size : len ≡ capacity (shape_of d) = eqb-true len _ (both_right (eqb (within (shape_of d) (capacity (shape_of d)) % 512) 0) _ t.0) ∙ is in
    let round : capacity (shape_of d) % 512 ≡ 0 = ap (λ (x : ℕ). x % 512) (sym is) ∙ eqb-true _ 0 (both_left _ _ t.0) in
    record {
      opens = stages.0;
      lent = l;
      whole = size;
      even = ap (λ (x : ℕ). x % 512) size ∙ round;
      differ = (spared (same one two) A.SameSecret A.Accepted refl t.1).0;
    }

-- so few sectors that their numbers never roll over
pub few_sectors : (d : Drive) (v one two : List ℕ) (len : ℕ) → HandGranted d v one two len → len < 2 ^ 33
few_sectors d v one two len g = omega (arith, g.whole, capacity-le (shape_of d) (limits (shape_of d) g.lent.limited))

-- an export: refused before the paths, refused by the read, done
module _ (d : Drive) (v one two out : List ℕ) {a : Answer} (ea : a ≡ hand_answer d v one two (length out)) where
  abbrev Met : Answer → List ℕ → Type 0
  Met r w = (r ≡ export_answer d v one two (length out)) × (w ≡ export_buffer d v one two out)

  left : {r : Answer} → r ≡ export_answer d v one two (length out) → accepts r ≡ false → Met r out
  unfolding export_buffer
  left er h = (er, sym (no _ (ap accepts (sym er) ∙ h) refl))

  pub export-first : accepts a ≡ false → Met a out
  unfolding export_answer
  export-first h = left (ea ∙ sym (stops (hand_answer d v one two (length out)) _ (ap accepts (sym ea) ∙ h))) h

  module _ (h : accepts a ≡ true) {b : Answer} (eb : b ≡ read_answer d v 0 (length out)) where
    then : b ≡ export_answer d v one two (length out)
    unfolding export_answer
    then = eb ∙ sym (goes_on (hand_answer d v one two (length out)) _ (ap accepts (sym ea) ∙ h))

    pub export-read : {w : List ℕ} → accepts b ≡ false → w ≡ read_buffer d v 0 out → Met b w
    unfolding export_buffer read_buffer
    export-read k ew = (then, ew ∙ no _ (ap accepts (sym eb) ∙ k) refl ∙ (left then k).1)

    pub export-done : {w z : List ℕ} → accepts b ≡ true → w ≡ read_buffer d v 0 out → z ≡ encrypted_from one two 0 w → Met b z
    unfolding export_buffer
    export-done k ew ez = (then, ez ∙ ap (λ (x : List ℕ). encrypted_from one two 0 x) ew ∙ sym (yes _ (ap accepts (sym then) ∙ k) refl))
