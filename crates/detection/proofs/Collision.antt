-- The theorems of specs/Collision.antt, each under its name.
use mathlib.Core.Path.{◌≡◌, refl, sym, ap, ◌∙◌}
use mathlib.Core.Bool.{true, false}
use mathlib.Core.Logic.{◌⊎◌, inl, inr, ⊎_elim}
use mathlib.Core.List.{List}
use Prim.Native.Nat.{ℕ, ◌+◌, ◌*◌, ◌^◌, ◌<◌, ◌≤◌}
use native.Mathlib.Omega.{arith}
use lib.ListN.{length, length-take, drop, get_or}
use Rattle.records.proofs.RecordLaws.{record_told}
use Rattle.base.specs.Lists.{part, tab, same}
use Rattle.base.proofs.PickLaws.{yes, told, clash}
use Rattle.base.proofs.FoldLaws.{same_true, same_refl}
use Rattle.base.proofs.PartLaws.{part-part}
use Rattle.base.proofs.TabLaws.{get_or-tab}
use Rattle.layout.specs.Parts.{record_at, tag_at, flake_at}
use Rattle.layout.specs.Spots.{spot_at}
use Rattle.layout.proofs.Limits.{Limits, limits}
use Rattle.layout.proofs.Places.{Inside}
use Rattle.answers.specs.Answer as A
use Rattle.answers.specs.Numbers.{accepts}
use Rattle.records.specs.Journal.{bit}
use Rattle.nodes.specs.Nodes.{record_part, tags_part}
use Rattle.nodes.specs.Alike.{Alike}
use Rattle.records.specs.Record.{record_of}
use Rattle.drive.specs.declared.Drive.{Drive}
use Rattle.drive.specs.Drive.{shape_of, gauge_of}
use Rattle.drive.proofs.OpeningLaws.{opening_lent}
use Rattle.nuggets.specs.Nugget.{lock_for, stored_in, contents_in, byte_of}
use Rattle.reading.specs.Read.{read_answer, read_buffer}
use Rattle.reading.proofs.TestedLaws.{read_tests}
use Rattle.detection.specs.Right.{SaysPresent}
use Rattle.twins.specs.Collision.{Collision}
use Rattle.twins.proofs.Excludes.{path_excludes}
use Rattle.detection.specs.Collision.{Forgery, OneDriveOneTree, OneDriveOneTag, OneDriveOneRead}
use Rattle.detection.proofs.RightLaws.{head_right, covered-told}
use Rattle.detection.proofs.TouchedLaws.{spot_within}
use Rattle.detection.proofs.Detection.{read_detected}

-- the drive's limits are kept
limits_read : (d : Drive) (v : List ℕ) (o len a : ℕ) → read_answer d v o len ≡ A.Accepted → o ≤ a → a < o + len → Limits (shape_of d)
limits_read d v o len a e h k = limits (shape_of d) (opening_lent d v (ap accepts (read_tests d v o len e a h k).opens)).limited

-- the byte's nugget and flake are there
spot_read : (d : Drive) (v : List ℕ) (o len a : ℕ) → read_answer d v o len ≡ A.Accepted → o ≤ a → a < o + len → Inside (shape_of d) a
spot_read d v o len a e h k =
    spot_within (shape_of d) o len a (limits_read d v o len a e h k) h k (read_tests d v o len e a h k).fits

-- two lists are equal or not
decided : (a b : List ℕ) → (a ≡ b) ⊎ (a ≡ b → ⊥)
decided a b = go (told (same a b))
  where
    go : (same a b ≡ true) ⊎ (same a b ≡ false) → (a ≡ b) ⊎ (a ≡ b → ⊥)
    go (inl e) = inl (same_true a b e)
    go (inr e) = inr (λ q. clash (rw q (same_refl b)) e)

pub one-drive-one_tree : OneDriveOneTree
one-drive-one_tree d v w o len a ev ew h k =
    let s = shape_of d in
    let n = (spot_at s a).nugget in
    let tv = read_tests d v o len ev a h k in
    let tw = read_tests d w o len ew a h k in
    go n
    (path_excludes s (gauge_of d) (gauge_of d) v w n (opening_lent d v (ap accepts tv.opens)) (opening_lent d w (ap accepts tw.opens))
    (spot_read d v o len a ev h k).nugget_is tv.path tw.path ((head_right d v tv.opens).node ∙ sym (head_right d w tw.opens).node))
    (decided (record_part s v n) (record_part s w n)) (decided (tags_part s v n) (tags_part s w n))
  where
    go : (n : ℕ) → ((Alike (shape_of d) v w n → ⊥) → Collision (shape_of d) v w n)
        → (record_part (shape_of d) v n ≡ record_part (shape_of d) w n) ⊎ (record_part (shape_of d) v n ≡ record_part (shape_of d) w n → ⊥)
        → (tags_part (shape_of d) v n ≡ tags_part (shape_of d) w n) ⊎ (tags_part (shape_of d) v n ≡ tags_part (shape_of d) w n → ⊥)
        → Alike (shape_of d) v w n ⊎ Collision (shape_of d) v w n
    go n excludes (inl r) (inl t) = inl (record { records = r; tags = t })
    go n excludes (inl r) (inr t) = inr (excludes (λ x. t x.tags))
    go n excludes (inr r) t = inr (excludes (λ x. r x.records))

-- with the same record bytes the record is the same
module _ (d : Drive) (v w : List ℕ) (n : ℕ) (x : Alike (shape_of d) v w n) where
  one_record : record_of (shape_of d) v n ≡ record_of (shape_of d) w n
  one_record = record_told (shape_of d) (record_at (shape_of d) n) v w x.records

  -- and with the same tags each tag is
  one_tag : (f : ℕ) → f < d.p → part (tag_at (shape_of d) n f) 16 v ≡ part (tag_at (shape_of d) n f) 16 w
  one_tag f h =
      let s = shape_of d in
      let at : tag_at s n 0 + 16 * f ≡ tag_at s n f = omega arith in
      rw (← at, ← part-part (16 * f) 16 (tag_at s n 0) (16 * s.p) v (omega (arith, h)), ← part-part (16 * f) 16 (tag_at s n 0) (16 * s.p) w (omega (arith, h)))
      (ap (λ (t : List ℕ). part (16 * f) 16 t) x.tags)

pub one-drive-one-tag : OneDriveOneTag
one-drive-one-tag d v w o len a ev ew h k x p =
    let s = shape_of d in
    let n = (spot_at s a).nugget in
    let f = (spot_at s a).flake in
    let r = one_record d v w n x in
    let there : SaysPresent d w n f = rw r at p in
    sym ((read_detected d v o len a ev h k).1 p)
    ∙ one_tag d v w n x f (spot_read d v o len a ev h k).flake_is
    ∙ (read_detected d w o len a ew h k).1 there
    ∙ rw r refl

-- what an accepted read lays at place i of its buffer
read_byte : (d : Drive) (v : List ℕ) (o : ℕ) (buffer : List ℕ) (i : ℕ) → i < length buffer → read_answer d v o (length buffer) ≡ A.Accepted
    → get_or (read_buffer d v o buffer) i 0 ≡ byte_of d v (o + i)
unfolding read_buffer
read_byte d v o buffer i h e =
    ap (λ (b : List ℕ). get_or b i 0) (yes {x = tab (length buffer) (λ j. byte_of d v (o + j))} buffer (ap accepts e) refl)
    ∙ get_or-tab (length buffer) (λ j. byte_of d v (o + j)) i 0 h

-- the same contents: of an absent flake whatever is stored, of a present one if the same is stored
module _ (d : Drive) (v w : List ℕ) (a : ℕ) (x : Alike (shape_of d) v w (spot_at (shape_of d) a).nugget) where
  absent_byte : bit (record_of (shape_of d) v (spot_at (shape_of d) a).nugget).held (spot_at (shape_of d) a).flake ≡ false → byte_of d v a ≡ byte_of d w a
  unfolding byte_of contents_in
  absent_byte off =
      let off' = rw (one_record d v w (spot_at (shape_of d) a).nugget x) at off in
      rw (off, off') refl

  stored-byte : (let at = spot_at (shape_of d) a in stored_in (shape_of d) v at.nugget at.flake ≡ stored_in (shape_of d) w at.nugget at.flake) → byte_of d v a ≡ byte_of d w a
  unfolding byte_of contents_in
  stored-byte e = rw (one_record d v w (spot_at (shape_of d) a).nugget x, e) refl

-- the byte itself
module _ (d : Drive) (v w : List ℕ) (o len a : ℕ) (ev : read_answer d v o len ≡ A.Accepted) (ew : read_answer d w o len ≡ A.Accepted) (h : o ≤ a) (k : a < o + len) where
  -- the same, or what is shown
  abbrev Told : Type 0
  Told =
      let s = shape_of d in
      let at = spot_at s a in
      (byte_of d v a ≡ byte_of d w a) ⊎ (Collision s v w at.nugget ⊎ Forgery d v w at.nugget at.flake)

  short : (u : List ℕ) (n f : ℕ) → length (stored_in (shape_of d) u n f) < 2 ^ 64
  short u n f = omega (arith, length-take d.f (drop (flake_at (shape_of d) n f) u), (limits_read d v o len a ev h k).short)

  by-stored : (let s = shape_of d in let at = spot_at s a in Alike s v w at.nugget → SaysPresent d v at.nugget at.flake
      → (stored_in s v at.nugget at.flake ≡ stored_in s w at.nugget at.flake) ⊎ (stored_in s v at.nugget at.flake ≡ stored_in s w at.nugget at.flake → ⊥) → Told)
  by-stored x p (inl e) = inl (stored-byte d v w a x e)
  by-stored x p (inr differ) =
      let at = spot_at (shape_of d) a in
      let told = covered-told (lock_for d v at.nugget) at.flake _ _ (short v at.nugget at.flake) (short w at.nugget at.flake) in
      inr (inr (record { differ = λ e. differ (told e); alike = one-drive-one-tag d v w o len a ev ew h k x p }))

  by_bit : (let s = shape_of d in let at = spot_at s a in Alike s v w at.nugget
      → (bit (record_of (shape_of d) v at.nugget).held at.flake ≡ true) ⊎ (bit (record_of (shape_of d) v at.nugget).held at.flake ≡ false) → Told)
  by_bit x (inl p) = by-stored x p (decided _ _)
  by_bit x (inr off) = inl (absent_byte d v w a x off)

  by_tree : (let s = shape_of d in let at = spot_at s a in Alike s v w at.nugget ⊎ Collision s v w at.nugget → Told)
  by_tree (inl x) = by_bit x (told _)
  by_tree (inr c) = inr (inl c)

  one_byte : Told
  one_byte = by_tree (one-drive-one_tree d v w o len a ev ew h k)

pub one-drive-one-read : OneDriveOneRead
one-drive-one-read d v w o buffer i l ev ew =
    ⊎_elim (λ e. inl (read_byte d v o buffer i l ev ∙ e ∙ sym (read_byte d w o buffer i l ew))) (λ shown. inr shown)
    (one_byte d v w o (length buffer) (o + i) ev ew (omega arith) (omega arith))
