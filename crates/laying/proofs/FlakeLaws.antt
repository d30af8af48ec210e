-- One flake laid anew in the volume, and the flakes of a nugget in turn.
use mathlib.Core.Path.{◌≡◌, refl, ap, sym, ◌∙◌}
use mathlib.Core.Bool.{Bool, true, false}
use mathlib.Core.List.{List}
use Prim.Native.Nat.{ℕ, ◌+◌, ◌-◌, ◌<◌, ◌≤◌}
use native.Mathlib.Nat.{mul-le-mul_right}
use native.Mathlib.Numerals.{add-one}
use native.Mathlib.Omega.{arith}
use lib.ListN.{length, get_or}
use lib.Seq.{sets}
use borrow.Rule.Slice.PartMut.{mid_of, put_mid}
use Rattle.base.proofs.PartLaws.{length_part, back}
use Rattle.base.proofs.TabLaws.{tab_ext, length-tab}
use Rattle.layout.specs.declared.Shape.{Shape}
use Rattle.layout.specs.Shaped.{Shaped}
use Rattle.layout.specs.Parts.{flake_at, tag_at}
use Rattle.layout.specs.Spots.{offset_at, capacity}
use Rattle.layout.proofs.Places.{flake-inside, tag-inside, parts_inside, index_lt}
use Rattle.records.specs.Journal.{bit}
use Rattle.records.specs.declared.Record.{Record}
use Rattle.records.specs.declared.Way.{Way}
use Rattle.records.specs.Rule.{enciphered, turned}
use Rattle.records.specs.Listing.{pads_of, pads_by}
use Rattle.keys.specs.declared.Lock.{Lock}
use Rattle.keys.specs.Pads.{under}
use Rattle.keys.specs.Tags.{tag_of}
use Rattle.drive.specs.declared.Drive.{Drive}
use Rattle.drive.specs.Drive.{shape_of}
use Rattle.nuggets.specs.declared.Nugget.{Nugget}
use Rattle.nuggets.specs.Nugget.{lock_by, nugget_of, contents_in, contents_of, stored_in}
use Rattle.nuggets.proofs.PieceLaws.{length-contents}
use Rattle.changes.specs.Laid.{over, written, laid_flake, laid_entry, laid}
use Rattle.changes.specs.Write.{new_contents}
use Rattle.changes.proofs.LaidLaws.{laid-append, length-under, Long}
use Rattle.changes.proofs.PadsLaws.{laid-stored, before_far}
use Rattle.relaying.specs.Flake.{opened_flake, overlaid, anew}
use Rattle.records.specs.Record.{record_of}

-- a flake and its tag lie in the volume, and its offsets below N P F
module _ (s : Shape) (v : List ℕ) (n f : ℕ) (lent : Shaped s v) (a : n < s.n) (b : f < s.p) where
  pub flake-room : flake_at s n f + s.f ≤ length v
  flake-room = rw lent.size (flake-inside s n f a b)

  pub tag-room : tag_at s n f + 16 ≤ length v
  tag-room = rw lent.size (omega (arith, tag-inside s n f a b, parts_inside s))

  pub offset_room : offset_at s n f 0 + s.f ≤ capacity s
  offset_room = omega (arith, mul-le-mul_right s.f (index_lt s n f a b))

-- the stored bytes opened are the contents
opened-contents : (s : Shape) (v : List ℕ) (g : Nugget) (f : ℕ) → length (stored_in s v g.lock.number f) ≡ s.f
    → opened_flake g f (stored_in s v g.lock.number f) ≡ contents_in s v g f
unfolding opened_flake contents_in
opened-contents s v g f e = rw e

-- by the offsets of the flake
overlaid-written : (s : Shape) (o : ℕ) (bytes : List ℕ) (n f : ℕ) (c : List ℕ) → length c ≡ s.f → overlaid (offset_at s n f 0) o bytes c ≡ written s o bytes n f c
unfolding overlaid written
overlaid-written s o bytes n f c e =
    rw e
    (tab_ext s.f (λ b. over o bytes (offset_at s n f 0 + b) (get_or c b 0)) (λ b. over o bytes (offset_at s n f b) (get_or c b 0)) (λ b h.
    let q : offset_at s n f 0 + b ≡ offset_at s n f b = omega arith in
    ap (λ (a : ℕ). over o bytes a (get_or c b 0)) q))

pub length-written : (s : Shape) (o : ℕ) (bytes : List ℕ) (n f : ℕ) (c : List ℕ) → length (written s o bytes n f c) ≡ s.f
unfolding written
length-written s o bytes n f c = length-tab s.f (λ b. over o bytes (offset_at s n f b) (get_or c b 0))

-- a nugget's flake under its new lock
module _ (s : Shape) (v : List ℕ) (g : Nugget) (lock : Lock) (f o : ℕ) (bytes : List ℕ) (one : g.lock.number ≡ lock.number) where
  abbrev new : List ℕ
  new = written s o bytes lock.number f (contents_in s v g f)

  -- the flake as it stood, laid anew, is the new contents
  anew-written : Shaped s v → lock.number < s.n → f < s.p → (at start : ℕ) → at ≡ flake_at s lock.number f → start ≡ offset_at s lock.number f 0
      → anew g f start o bytes (mid_of at (at + s.f - at) v) ≡ new
  anew-written lent a b at start p q =
      let room = flake-room s v lock.number f lent a b in
      let size : at + s.f - at ≡ s.f = omega arith in
      let stored : length (stored_in s v lock.number f) ≡ s.f = length_part (flake_at s lock.number f) s.f v room in
      let opened : opened_flake g f (stored_in s v lock.number f) ≡ contents_in s v g f = rw (← one) (opened-contents s v g f (rw one stored)) in
      rw (size, p, q)
      (ap (λ (x : List ℕ). overlaid (offset_at s lock.number f 0) o bytes x) opened
      ∙ overlaid-written s o bytes lock.number f (contents_in s v g f) (length-contents s v g f lent (rw one a) b))

  -- the lent flake, and then its tag
  pub flake-laid : Shaped s v → lock.number < s.n → f < s.p → (at start tag : ℕ) {z t w : List ℕ}
      → at ≡ flake_at s lock.number f → start ≡ offset_at s lock.number f 0 → tag ≡ tag_at s lock.number f
      → z ≡ under lock f (length (mid_of at (at + s.f - at) v)) (anew g f start o bytes (mid_of at (at + s.f - at) v))
      → t ≡ tag_of lock f (under lock f (length (mid_of at (at + s.f - at) v)) (anew g f start o bytes (mid_of at (at + s.f - at) v)))
      → w ≡ sets (put_mid at (at + s.f - at) v z) tag t → w ≡ laid_flake s lock f new v
  unfolding laid_flake
  flake-laid lent a b at start tag {z} {t} p q r ez et ew =
      let m = mid_of at (at + s.f - at) v in
      let room : at + s.f ≤ length v = rw p (flake-room s v lock.number f lent a b) in
      let size : at + s.f - at ≡ s.f = omega arith in
      let long : length m ≡ s.f = rw size (length_part at s.f v room) in
      let wide : length new ≡ s.f = length-written s o bytes lock.number f (contents_in s v g f) in
      let fresh : anew g f start o bytes m ≡ new = anew-written lent a b at start p q in
      let stored : z ≡ under lock f s.f new = ez ∙ rw (long, fresh) in
      let tagged : t ≡ tag_of lock f (under lock f s.f new) = et ∙ rw (long, fresh) in
      let full : length z ≡ s.f = rw stored (length-under lock f s.f new wide) in
      let put : put_mid at (at + s.f - at) v z ≡ sets v at z = rw size (back at s.f v z room full) in
      ew ∙ rw (put, stored, tagged, p, r)

-- the loop over the flakes of the set
module _ (s : Shape) (salt : List ℕ) (fresh : ℕ → ℕ → List ℕ) (n k : ℕ) (secret : List ℕ) (has : ℕ → Bool) (v : List ℕ) where
  pub none-laid : v ≡ laid s salt fresh (pads_of n k secret has 0) v
  unfolding pads_of laid
  none-laid = refl

  pub one-laid : (f : ℕ) {w z : List ℕ} → w ≡ laid s salt fresh (pads_of n k secret has f) v → has f ≡ true
      → z ≡ laid_flake s (lock_by s salt secret n k) f (fresh n f) w → z ≡ laid s salt fresh (pads_of n k secret has (f + 1)) v
  unfolding pads_of laid laid_entry
  one-laid f ew h ez = ez ∙ rw (ew, add-one f, h) (sym (laid-append s salt fresh (pads_of n k secret has f) _ v))

  pub one_left : (f : ℕ) {w : List ℕ} → w ≡ laid s salt fresh (pads_of n k secret has f) v → has f ≡ false → w ≡ laid s salt fresh (pads_of n k secret has (f + 1)) v
  unfolding pads_of laid
  one_left f ew h = ew ∙ rw (add-one f, h) (sym (laid-append s salt fresh (pads_of n k secret has f) _ v))

  -- a flake not laid yet still has its contents
  pub still_there : Long s fresh → n < s.n → (f : ℕ) → f < s.p → {w : List ℕ} → w ≡ laid s salt fresh (pads_of n k secret has f) v
      → (g : Nugget) → g.lock.number ≡ n → contents_in s w g f ≡ contents_in s v g f
  unfolding contents_in
  still_there long a f b {w} ew g e =
      let stored : stored_in s w n f ≡ stored_in s v n f = rw ew (laid-stored s salt fresh long n f a b (pads_of n k secret has f) v (before_far s n f a b k secret has)) in
      rw (e, stored)

-- the same of a drive's nugget under a write
module _ (d : Drive) (v : List ℕ) (n k mask o : ℕ) (bytes : List ℕ) where
  -- the flakes below f are laid
  abbrev pub Upto : ℕ → List ℕ → Type 0
  Upto f w = w ≡ laid (shape_of d) d.salt (new_contents d v o bytes) (pads_of n k d.present (bit mask) f) v

  long_new : Long (shape_of d) (new_contents d v o bytes)
  long_new m f a b = length-written (shape_of d) o bytes m f (contents_of d v m f)

  pub turn_in : n < d.n → (f : ℕ) → f < d.p → {s : Shape} {g : Nugget} {lock : Lock} {w z : List ℕ} → s ≡ shape_of d → g ≡ nugget_of d v n
      → lock ≡ lock_by s d.salt d.present n k → Upto f w → bit mask f ≡ true
      → z ≡ laid_flake s lock f (written s o bytes lock.number f (contents_in s w g f)) w → Upto (f + 1) z
  turn_in a f b {w = w} es eg el e h ez =
      let still = still_there (shape_of d) d.salt (new_contents d v o bytes) n k d.present (bit mask) v long_new a f b e (nugget_of d v n) refl in
      one-laid (shape_of d) d.salt (new_contents d v o bytes) n k d.present (bit mask) v f e h
      (ez ∙ rw (el, es, eg) (ap (λ (x : List ℕ). laid_flake (shape_of d) (lock_by (shape_of d) d.salt d.present n k) f (written (shape_of d) o bytes n f x) w) still))

-- by the way of the nugget: the flakes that it enciphers, under the keycount after it
pub lay_is : (d : Drive) (v : List ℕ) (n : ℕ) (way : Way) (o : ℕ) (bytes : List ℕ) {r after : Record} {mask : ℕ} {w : List ℕ} → r ≡ record_of (shape_of d) v n
    → after ≡ turned way d.epoch r → mask ≡ enciphered way r
    → w ≡ laid (shape_of d) d.salt (new_contents d v o bytes) (pads_of n after.keycount d.present (bit mask) d.p) v
    → w ≡ laid (shape_of d) d.salt (new_contents d v o bytes) (pads_by d.p way n (record_of (shape_of d) v n) d.present) v
unfolding pads_by
lay_is d v n way o bytes er ea em ew = ew ∙ rw (ea, em, er)
