-- What a move stores, step by step as the code stores it, and its lengths.
use mathlib.Core.Path.{◌≡◌, refl, sym, ◌∙◌}
use mathlib.Core.Bool.{true, false}
use mathlib.Core.List.{List}
use Prim.Native.Nat.{ℕ, zero, suc, ◌+◌, ◌-◌}
use native.Mathlib.Numerals.{add-one}
use lib.ListN.{length, length-replicate}
use lib.Seq.{sets, length-sets}
use Rattle.base.specs.Lists.{part}
use Rattle.base.proofs.PickLaws.{yes, no}
use Rattle.base.proofs.PartLaws.{part_to}
use Rattle.layout.specs.declared.Shape.{Shape}
use Rattle.layout.specs.Parts.{tag_at, flake_at, record_at, flakes_at, length_of}
use Rattle.layout.specs.Spots.{capacity}
use Rattle.records.specs.declared.Record.{Record}
use Rattle.records.specs.Journal.{bit}
use Rattle.records.specs.Record.{record_bytes, record_of}
use Rattle.keys.specs.declared.Lock.{Lock}
use Rattle.keys.specs.Tags.{tag_of}
use Rattle.tree.specs.Renewed.{built}
use Rattle.tree.proofs.BuildLaws.{built-outside}
use Rattle.drive.specs.declared.Drive.{Drive}
use Rattle.drive.specs.Drive.{shape_of, zeros}
use Rattle.nuggets.specs.declared.Nugget.{Nugget}
use Rattle.nuggets.specs.Nugget.{secret_for, lock_by}
use Rattle.changes.specs.Change.{advanced, settled}
use Rattle.moving.specs.Carry.{entering, nugget_under, copied, new_tag, tags_to, carried, carried_to, carried_over, moved_drive, moved_volume}

-- the flakes
module _ (s t : Shape) (v : List ℕ) where
  pub copies : {w z : List ℕ} {from k at : ℕ} → w ≡ zeros (length_of t) → from ≡ flakes_at s → k ≡ capacity s → at ≡ flakes_at t
      → z ≡ sets w at (part from (from + k - from) v) → z ≡ copied s t v
  unfolding copied
  copies {from = from} {k} ew ef ek ea ez = ez ∙ rw (part_to from k v, ew, ef, ek, ea) refl

  pub length-copied : length (copied s t v) ≡ length_of t
  unfolding copied
  length-copied = length-sets (zeros (length_of t)) (flakes_at t) (part (flakes_at s) (capacity s) v) ∙ length-replicate (length_of t) 0

-- a tag
module _ (s : Shape) (v : List ℕ) (g : Nugget) (f : ℕ) where
  pub tag-anew : {at : ℕ} {r : List ℕ} → bit g.held f ≡ true → at ≡ flake_at s g.lock.number f
      → r ≡ tag_of g.lock f (part at (at + s.f - at) v) → r ≡ new_tag s v g f
  unfolding new_tag
  tag-anew {at} on ea er = er ∙ rw (part_to at s.f v, ea) (sym (yes _ on refl))

  pub tag-copied : {at : ℕ} {r : List ℕ} → bit g.held f ≡ false → at ≡ tag_at s g.lock.number f → r ≡ part at 16 v → r ≡ new_tag s v g f
  unfolding new_tag
  tag-copied off ea er = er ∙ rw ea (sym (no _ off refl))

-- the tags of a nugget
module _ (s t : Shape) (v : List ℕ) (g : Nugget) (w : List ℕ) where
  pub no_tag : w ≡ tags_to s t v g 0 w
  unfolding tags_to
  no_tag = refl

  pub next-tag : (f : ℕ) {u z tag : List ℕ} {at : ℕ} → u ≡ tags_to s t v g f w → tag ≡ new_tag s v g f → at ≡ tag_at t g.lock.number f
      → z ≡ sets u at tag → z ≡ tags_to s t v g (f + 1) w
  unfolding tags_to
  next-tag f eu et ea ez = ez ∙ rw (eu, et, ea, add-one f) refl

  pub length-tags : (f : ℕ) → length (tags_to s t v g f w) ≡ length w
  unfolding tags_to
  length-tags zero = refl
  length-tags (suc f) = length-sets (tags_to s t v g f w) (tag_at t g.lock.number f) (new_tag s v g f) ∙ length-tags f

-- a nugget, and those below n
module _ (d : Drive) (t : Shape) (v : List ℕ) where
  pub carries : (n : ℕ) (w : List ℕ) {s : Shape} {r : Record} {u z secret : List ℕ} {lock : Lock} → s ≡ shape_of d → r ≡ record_of s v n
      → u ≡ sets w (record_at t n) (record_bytes t r) → secret ≡ secret_for d r.epoch → lock ≡ lock_by t d.salt secret n r.keycount
      → z ≡ tags_to s t v (record { lock = lock; held = r.held }) s.p u → z ≡ carried d t v n w
  unfolding carried
  carries n w es er eu ek el ez = ez ∙ rw (el, ek, eu, er, es) refl

  pub length-carried : (n : ℕ) (w : List ℕ) → length (carried d t v n w) ≡ length w
  unfolding carried
  length-carried n w =
      let r = record_of (shape_of d) v n in
      length-tags (shape_of d) t v (nugget_under d t r n) (sets w (record_at t n) (record_bytes t r)) d.p ∙ length-sets w (record_at t n) (record_bytes t r)

  pub none-carried : (w : List ℕ) → w ≡ carried_to d t v 0 w
  unfolding carried_to
  none-carried w = refl

  pub next-carried : (n : ℕ) (w : List ℕ) {u z : List ℕ} → u ≡ carried_to d t v n w → z ≡ carried d t v n u → z ≡ carried_to d t v (n + 1) w
  unfolding carried_to
  next-carried n w eu ez = ez ∙ rw (eu, add-one n) refl

  pub length-all : (n : ℕ) (w : List ℕ) → length (carried_to d t v n w) ≡ length w
  unfolding carried_to
  length-all zero w = refl
  length-all (suc n) w = length-carried n (carried_to d t v n w) ∙ length-all n w

  -- all of it
  pub overs : {s : Shape} {u x z : List ℕ} → s ≡ shape_of d → u ≡ copied s t v → x ≡ carried_to d t v d.n u → z ≡ built t x → z ≡ carried_over d t v
  unfolding carried_over
  overs es eu ex ez = ez ∙ rw (ex, eu, es) refl

  pub length_over : length (carried_over d t v) ≡ length_of t
  unfolding carried_over
  length_over =
      (built-outside t (carried_to d t v d.n (copied (shape_of d) t v))).long
      ∙ length-all d.n (copied (shape_of d) t v) ∙ length-copied (shape_of d) t v

-- and with the head
pub move_made : (enter : ℕ) (d : Drive) (v : List ℕ) {x y : Drive} {t : Shape} {p q : List ℕ} → x ≡ entering enter d → t ≡ shape_of x → p ≡ carried_over d t v
    → y ≡ advanced x p → q ≡ settled (advanced x p) p → (y ≡ moved_drive enter d v) × (q ≡ moved_volume enter d v)
move_made enter d v ex et ep ey eq = (ey ∙ rw (ep, et, ex) refl, eq ∙ rw (ep, et, ex) refl)
