-- An accepted mount's drive passes the tests that every call starts with: the head's bytes are those it makes.
use Prim.{tt}
use mathlib.Core.Path.{◌≡◌, refl, sym, ◌∙◌, ap}
use mathlib.Core.Bool.{true, false}
use mathlib.Core.Logic.{◌⊎◌, inl, inr}
use mathlib.Core.List.{List}
use Prim.Native.Nat.{ℕ, ◌+◌, ◌≤◌}
use native.Mathlib.Omega.{arith}
use lib.Dec.{leb, eqb}
use lib.ListN.{length}
use Rattle.drive.proofs.OpeningLaws.{opening-by}
use borrow.Author.Tests.{leb-true, eqb-true, eqb-false}
use Rattle.base.specs.Lists.{part, same}
use Rattle.base.proofs.PickLaws.{told, both_left, both_right, both-on}
use Rattle.base.proofs.PartLaws.{part-append}
use Rattle.base.proofs.FoldLaws.{same_true, same_refl}
use Rattle.words.specs.Le.{num, Bytes}
use Rattle.codec.specs.Row.{Values, ◌&◌, row, row_in}
use Rattle.codec.proofs.RowLaws.{row_back}
use Rattle.answers.specs.Answer as A
use Rattle.answers.specs.Numbers.{accepts}
use Rattle.layout.specs.Shape.{in_limits}
use Rattle.layout.specs.Parts.{length_of}
use Rattle.keys.specs.Keys.{seal_of}
use Rattle.drive.specs.declared.Drive.{Drive}
use Rattle.drive.specs.Head.{mark, state_byte, check_in, front_row, front_values, front_in, head_of}
use Rattle.drive.specs.Opening.{in_form, head_stands, opening_of}
use Rattle.opening.specs.Mount.{shape_in, version_in, kind_in, state_byte_in, cipher_in, state_in, epoch_in, salt_in, counter_in, mark_fits, head_fits, length_fits, sealed, checked, whole_in, opened_drive, form_of, keys_of, rest_of, mount_answer}
use Rattle.answers.proofs.StageLaws.{both_stages, passed, accepted_is}

-- what the tests of an accepted mount tell
pub record Opened (v : List ℕ) (d : Drive) (outside : ℕ) : Type 0 where
  pub head_long : 104 ≤ length v
  pub has_mark : mark_fits v ≡ true
  pub fits : head_fits v ≡ true
  pub long : length_fits v ≡ true
  pub seal : sealed d v ≡ true
  pub check : checked d v ≡ true
  pub counter : d.counter ≡ outside
  pub whole : whole_in d v ≡ A.Accepted

pub opened : (v present old : List ℕ) (outside : ℕ) → mount_answer v present old outside ≡ A.Accepted → Opened v (opened_drive v present old) outside
unfolding mount_answer form_of rest_of keys_of
opened v present old outside e =
    let d = opened_drive v present old in
    let (form, rest) = both_stages (form_of v) _ (ap accepts e) in
    let t₁ = passed (leb 104 (length v)) _ A.Length refl form in
    let t₂ = passed (mark_fits v) _ A.Mark refl t₁.1 in
    let t₃ = passed (head_fits v) _ A.Limits refl t₂.1 in
    let t₄ = passed (length_fits v) _ A.Length refl t₃.1 in
    let (keys, whole) = both_stages (keys_of d v outside) _ rest in
    let t₅ = passed (sealed d v) _ A.Seal refl keys in
    let t₆ = passed (checked d v) _ A.OldSecret refl t₅.1 in
    let t₇ = passed _ A.Accepted A.Counter refl t₆.1 in
    record {
      head_long = leb-true 104 (length v) t₁.0;
      has_mark = t₂.0;
      fits = t₃.0;
      long = t₄.0;
      seal = t₅.0;
      check = t₆.0;
      counter = eqb-true d.counter outside t₇.0;
      whole = accepted_is (whole_in d v) whole;
    }

-- the state's byte is the stored one
state-back : (v : List ℕ) → state_byte_in v ≤ 1 → state_byte (state_in v) ≡ state_byte_in v
state-back v h = go (told (eqb (state_byte_in v) 0))
  where
    go : (eqb (state_byte_in v) 0 ≡ true) ⊎ (eqb (state_byte_in v) 0 ≡ false) → state_byte (state_in v) ≡ state_byte_in v
    go (inl e) = rw e (sym (eqb-true (state_byte_in v) 0 e))
    go (inr e) = let ne = eqb-false (state_byte_in v) 0 e in rw e (omega (arith, h, ne))

module _ (v present old : List ℕ) (outside : ℕ) (bytes : Bytes v) (e : mount_answer v present old outside ≡ A.Accepted) where
  o : Opened v (opened_drive v present old) outside
  o = opened v present old outside e

  low : state_byte_in v ≤ 1
  unfolding head_fits
  low = leb-true (state_byte_in v) 1 (both_left (leb (state_byte_in v) 1) _ (both_right (in_limits (shape_in v)) _ o.fits))

  -- what bytes 0 to 71 hold is what the drive puts there
  front_values_lem : row_in front_row 0 0 v ≡ front_values (opened_drive v present old)
  unfolding mark_fits checked opened_drive
  front_values_lem =
      let mark-is : part 0 3 v ≡ mark = same_true (part 0 3 v) mark (both_left (same (part 0 3 v) mark) _ o.has_mark) in
      let kind-is : kind_in v ≡ state_byte (state_in v) + cipher_in v = omega (arith, state-back v low) in
      let check-is : part 40 32 v ≡ check_in (opened_drive v present old) = same_true (part 40 32 v) (check_in (opened_drive v present old)) o.check in
      λ i. mark-is i & version_in v & kind-is i & epoch_in v & num (part 8 4 v) & num (part 12 2 v) & num (part 14 2 v) & salt_in v & counter_in v & check-is i & tt

  front-back : front_in (opened_drive v present old) ≡ part 0 72 v
  unfolding front_in
  front-back = ap (λ (z : Values front_row). row front_row z) (sym front_values_lem) ∙ row_back front_row 0 v bytes (omega (arith, o.head_long))

  -- all 104
  pub head-back : head_of (opened_drive v present old) ≡ part 0 104 v
  unfolding head_of sealed
  head-back =
      let d = opened_drive v present old in
      let s : part 72 32 v ≡ seal_of d.present (part 0 72 v) d.node = same_true (part 72 32 v) (seal_of d.present (part 0 72 v) d.node) o.seal in
      rw (front-back, ← s) (part-append 0 72 32 72 v refl)

  pub mount_opens : opening_of (opened_drive v present old) v ≡ A.Accepted
  unfolding in_form head_fits length_fits head_stands opened_drive
  mount_opens =
      let d = opened_drive v present old in
      let limits = both_left (in_limits (shape_in v)) _ o.fits in
      let epoch = both_right (leb (state_byte_in v) 1) _ (both_right (in_limits (shape_in v)) _ o.fits) in
      let first : same (part 0 104 v) (head_of d) ≡ true = ap (λ (h : List ℕ). same (part 0 104 v) h) head-back ∙ same_refl (part 0 104 v) in
      let stands : head_stands d v ≡ true = both-on first (same_refl d.node) in
      opening-by d v (both-on limits epoch) (eqb-true (length v) (length_of (shape_in v)) o.long) stands
