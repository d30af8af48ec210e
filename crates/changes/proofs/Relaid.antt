-- A held flake that keeps its contents while its nugget is rekeyed: old and new pad together over its stored bytes.
use mathlib.Core.Path.{◌≡◌, refl, ap, sym, ◌∙◌}
use mathlib.Core.Bool.{true, false}
use mathlib.Core.Logic.{◌⊎◌, inl, inr}
use mathlib.Core.List.{List}
use Prim.Native.Nat.{ℕ, ◌+◌, ◌<◌, ◌≤◌, max, min}
use native.Mathlib.Omega.{arith}
use lib.Dec.{leb, ltb}
use lib.ListN.{length, get_or}
use lib.Seq.{ext_get_or}
use borrow.Author.Tests.{leb-true, ltb-true, lt-ltb}
use Rattle.base.specs.Pick.{both}
use Rattle.base.proofs.PickLaws.{yes, no, told, clash, both_left, both_right, either_left}
use Rattle.base.proofs.PartLaws.{length_part}
use Rattle.base.proofs.TabLaws.{length-tab, get_or-tab}
use Rattle.layout.specs.declared.Shape.{Shape}
use Rattle.layout.specs.Shaped.{Shaped}
use Rattle.layout.specs.Parts.{flake_at}
use Rattle.layout.specs.Spots.{offset_at}
use Rattle.layout.proofs.Places.{flake-inside}
use Rattle.records.specs.declared.Record.{Record}
use Rattle.records.specs.declared.Way.{Way}
use Rattle.records.specs.declared.Way.TheVariants.{Idle, Add, Rekey, Clear}
use Rattle.records.specs.Journal.{bit}
use Rattle.records.specs.Record.{record_of}
use Rattle.records.specs.Rule.{rekeys, enciphered, keycount_after}
use Rattle.records.proofs.BitLaws.{bit-union}
use Rattle.keys.specs.Pads.{under}
use Rattle.keys.proofs.PadLaws.{relocked}
use Rattle.drive.specs.declared.Drive.{Drive}
use Rattle.drive.specs.Drive.{shape_of}
use Rattle.nuggets.specs.Nugget.{lock_by, lock_for, nugget_of, stored_in, contents_in, contents_of}
use Rattle.nuggets.specs.Touched.{meets}
use Rattle.nuggets.proofs.PieceLaws.{length-contents}
use Rattle.changes.specs.Laid.{over, written}
use Rattle.changes.specs.Change.{worked}
use Rattle.changes.specs.Write.{new_contents}
use Rattle.changes.specs.Relaid.{relaid_under}
use Rattle.changes.proofs.LaidLaws.{Long}
use Rattle.changes.proofs.ViewLaws.{worked-put}

-- rekeyed, all that was held is enciphered
rekeyed_held : (way : Way) (r : Record) (f : ℕ) → rekeys way ≡ true → bit r.held f ≡ true → bit (enciphered way r) f ≡ true
unfolding enciphered
rekeyed_held Idle r f e h = absurd (clash e refl)
rekeyed_held (Add t) r f e h = absurd (clash e refl)
rekeyed_held (Rekey t) r f e h = bit-union r.held t f ∙ either_left _ h
rekeyed_held (Clear m) r f e h = absurd (clash e refl)

-- a flake that the range doesn't meet keeps each byte
pub missed_byte : (s : Shape) (o len n f b : ℕ) → meets s o len n f ≡ false → b < s.f → both (leb o (offset_at s n f b)) (ltb (offset_at s n f b) (o + len)) ≡ false
unfolding meets
missed_byte s o len n f b off h = go (told (both (leb o (offset_at s n f b)) (ltb (offset_at s n f b) (o + len))))
  where
    go : (both (leb o (offset_at s n f b)) (ltb (offset_at s n f b) (o + len)) ≡ true) ⊎ (both (leb o (offset_at s n f b)) (ltb (offset_at s n f b) (o + len)) ≡ false)
        → both (leb o (offset_at s n f b)) (ltb (offset_at s n f b) (o + len)) ≡ false
    go (inl e) =
        let low : o ≤ offset_at s n f b = leb-true o (offset_at s n f b) (both_left (leb o (offset_at s n f b)) _ e) in
        let high : offset_at s n f b < o + len = ltb-true (offset_at s n f b) (o + len) (both_right (leb o (offset_at s n f b)) _ e) in
        absurd (clash (lt-ltb (max o (offset_at s n f 0)) (min (o + len) (offset_at s n f s.f)) (omega (arith, low, high, h))) off)
    go (inr e) = e

pub missed : (s : Shape) (o : ℕ) (bytes : List ℕ) (n f : ℕ) (c : List ℕ) → length c ≡ s.f → meets s o (length bytes) n f ≡ false → written s o bytes n f c ≡ c
unfolding written
missed s o bytes n f c long off =
    let byte : ℕ → ℕ = λ b. over o bytes (offset_at s n f b) (get_or c b 0) in
    ext_get_or 0 (written s o bytes n f c) c (length-tab s.f byte ∙ sym long) (λ i q.
    let low : i < s.f = omega (arith, q, length-tab s.f byte) in
    get_or-tab s.f byte i 0 low ∙ no _ (missed_byte s o (length bytes) n f i off low) refl)

module _ (d : Drive) (v : List ℕ) (l : Shaped (shape_of d) v) where
  abbrev s : Shape
  s = shape_of d

  -- new contents are F bytes each
  pub long_new : (o : ℕ) (bytes : List ℕ) → Long s (new_contents d v o bytes)
  unfolding written
  long_new o bytes n f a b = length-tab d.f _

  pub long_same : Long s (contents_of d v)
  long_same n f a b = length-contents s v (nugget_of d v n) f l a b

  -- a held flake that keeps its contents
  pub worked_relays : (way : ℕ → Way) (new : ℕ → ℕ → List ℕ) → Long s new → (n f : ℕ) → n < d.n → f < d.p → rekeys (way n) ≡ true
      → bit (record_of s v n).held f ≡ true → new n f ≡ contents_of d v n f → stored_in s (worked d v way new) n f ≡ relaid_under d v (way n) n f
  unfolding contents_in
  worked_relays way new long n f a b rekeyed held kept =
      let next = lock_by s d.salt d.present n (keycount_after (way n) (record_of s v n)) in
      let room : length (stored_in s v n f) ≡ d.f = length_part (flake_at s n f) d.f v (rw l.size (flake-inside s n f a b)) in
      (worked-put d v way new l long n f a b (rekeyed_held (way n) (record_of s v n) f rekeyed held)).stored
      ∙ ap (λ (c : List ℕ). under next f d.f c) (kept ∙ yes _ held refl)
      ∙ relocked (lock_for d v n) next f d.f (stored_in s v n f) (omega (arith, room))
