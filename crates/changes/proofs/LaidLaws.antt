-- Flakes and tags as the list of encipherings lays them: what each entry puts, and what it leaves.
use mathlib.Core.Path.{◌≡◌, refl, ◌∙◌}
use mathlib.Core.Logic.{inl, inr}
use mathlib.Core.List.{List, [], ◌∷◌, ◌++◌}
use Prim.Native.Nat.{ℕ, ◌+◌, ◌*◌, ◌<◌, ◌≤◌}
use native.Mathlib.Omega.{arith}
use lib.ListN.{length}
use lib.Seq.{sets, length-sets}
use Rattle.base.specs.Lists.{part}
use Rattle.base.proofs.PartLaws.{part-sets}
use Rattle.words.proofs.XorLaws.{length-xorl}
use Rattle.layout.specs.declared.Shape.{Shape}
use Rattle.layout.specs.Shape.{leaves}
use Rattle.layout.specs.Shaped.{Shaped}
use Rattle.layout.specs.Parts.{tags_at, tag_at, flake_at, node_at}
use Rattle.layout.proofs.Places.{tag-inside, node-inside, flake-inside, parts_inside}
use Rattle.records.specs.Listing.{Entry}
use Rattle.keys.specs.declared.Lock.{Lock}
use Rattle.keys.specs.Pads.{pad_of, under}
use Rattle.keys.specs.Tags.{tag_of}
use Rattle.keys.proofs.TagLaws.{length-tag}
use Rattle.nuggets.specs.Nugget.{lock_of, stored_in}
use Rattle.changes.specs.Laid.{laid_flake, laid_entry, laid}
use Rattle.changes.proofs.Each.{Each}
use Rattle.changes.proofs.CellLaws.{Apart, part_apart, Other, flakes_apart, tags_apart}

-- the encipherings of two lists, one after the other
pub laid-append : (s : Shape) (salt : List ℕ) (new : ℕ → ℕ → List ℕ) (a b : List Entry) (v : List ℕ) → laid s salt new (a ++ b) v ≡ laid s salt new b (laid s salt new a v)
unfolding laid
laid-append s salt new [] b v = refl
laid-append s salt new (e ∷ a) b v = laid-append s salt new a b (laid_entry s salt new e v)

-- what is laid over F bytes of contents is F bytes
pub length-under : (lock : Lock) (f size : ℕ) (c : List ℕ) → length c ≡ size → length (under lock f size c) ≡ size
length-under lock f size c e = length-xorl c (pad_of lock f size) ∙ e

-- one flake laid
module _ (s : Shape) (lock : Lock) (f : ℕ) (c v : List ℕ) where
  abbrev n : ℕ
  n = lock.number

  pub length-flake : length (laid_flake s lock f c v) ≡ length v
  unfolding laid_flake
  length-flake =
      let x = under lock f s.f c in
      length-sets (sets v (flake_at s n f) x) (tag_at s n f) (tag_of lock f x) ∙ length-sets v (flake_at s n f) x

  pub flake-leaves : length c ≡ s.f → (at m : ℕ) → Apart at m (tag_at s n f) 16 → Apart at m (flake_at s n f) s.f
      → part at m (laid_flake s lock f c v) ≡ part at m v
  unfolding laid_flake
  flake-leaves e at m a b =
      let x = under lock f s.f c in
      part_apart at m (sets v (flake_at s n f) x) (tag_at s n f) 16 (tag_of lock f x) (length-tag lock f x) a
      ∙ part_apart at m v (flake_at s n f) s.f x (length-under lock f s.f c e) b

  pub flake-put : Shaped s v → n < s.n → f < s.p → length c ≡ s.f → stored_in s (laid_flake s lock f c v) n f ≡ under lock f s.f c
  unfolding laid_flake
  flake-put l a b e =
      let x = under lock f s.f c in
      let far : Apart (flake_at s n f) s.f (tag_at s n f) 16 = inr (omega (arith, tag-inside s n f a b, parts_inside s)) in
      part_apart (flake_at s n f) s.f (sets v (flake_at s n f) x) (tag_at s n f) 16 (tag_of lock f x) (length-tag lock f x) far
      ∙ part-sets v (flake_at s n f) s.f x (length-under lock f s.f c e) (rw l.size (flake-inside s n f a b))

  pub tag-put : Shaped s v → n < s.n → f < s.p → part (tag_at s n f) 16 (laid_flake s lock f c v) ≡ tag_of lock f (under lock f s.f c)
  unfolding laid_flake
  tag-put l a b =
      let x = under lock f s.f c in
      part-sets (sets v (flake_at s n f) x) (tag_at s n f) 16 (tag_of lock f x) (length-tag lock f x)
      (rw (length-sets v (flake_at s n f) x, l.size) (omega (arith, tag-inside s n f a b, parts_inside s)))

-- new contents are F bytes each
abbrev pub Long : Shape → (ℕ → ℕ → List ℕ) → Type 0
Long s new = (n f : ℕ) → n < s.n → f < s.p → length (new n f) ≡ s.f

-- an entry's flake is one of the volume, and m bytes from a place on meet neither it nor its tag
pub record Clear (s : Shape) (at m : ℕ) (e : Entry) : Type 0 where
  pub nugget : e.nugget < s.n
  pub flake : e.flake < s.p
  pub tag_apart : Apart at m (tag_at s e.nugget e.flake) 16
  pub flake_apart : Apart at m (flake_at s e.nugget e.flake) s.f

module _ (s : Shape) (salt : List ℕ) (new : ℕ → ℕ → List ℕ) where
  pub length-laid : (es : List Entry) (v : List ℕ) → length (laid s salt new es v) ≡ length v
  unfolding laid laid_entry
  length-laid [] v = refl
  length-laid (e ∷ es) v =
      let lock = lock_of s salt e in
      let c = new e.nugget e.flake in
      length-laid es (laid_flake s lock e.flake c v) ∙ length-flake s lock e.flake c v

  pub laid_lent : (es : List Entry) (v : List ℕ) → Shaped s v → Shaped s (laid s salt new es v)
  laid_lent es v l = record { limited = l.limited; size = length-laid es v ∙ l.size }

  -- what no entry meets stays
  pub laid-leaves : Long s new → (at m : ℕ) (es : List Entry) (v : List ℕ) → Each (Clear s at m) es → part at m (laid s salt new es v) ≡ part at m v
  unfolding laid laid_entry
  laid-leaves long at m [] v x = refl
  laid-leaves long at m (e ∷ es) v x =
      let lock = lock_of s salt e in
      let c = new e.nugget e.flake in
      let h = x.0 in
      laid-leaves long at m es (laid_flake s lock e.flake c v) x.1
      ∙ flake-leaves s lock e.flake c v (long e.nugget e.flake h.nugget h.flake) at m h.tag_apart h.flake_apart

-- an entry of the volume's
pub record EntryInside (s : Shape) (e : Entry) : Type 0 where
  pub nugget : e.nugget < s.n
  pub flake : e.flake < s.p

-- it meets nothing below the tags, no node, and of the flakes and tags its own alone
pub clear-below : (s : Shape) (at m : ℕ) → at + m ≤ tags_at s → (e : Entry) → EntryInside s e → Clear s at m e
clear-below s at m h e x =
    record { nugget = x.nugget; flake = x.flake; tag_apart = inl (omega (arith, h)); flake_apart = inl (omega (arith, h, parts_inside s)) }

pub clear-node : (s : Shape) (i : ℕ) → 1 ≤ i → i < 2 * leaves s.n → (e : Entry) → EntryInside s e → Clear s (node_at s i) 32 e
clear-node s i a b e x =
    let t = node-inside s i a b in
    record {
      nugget = x.nugget;
      flake = x.flake;
      tag_apart = inr (omega (arith, t.0, tag-inside s e.nugget e.flake x.nugget x.flake));
      flake_apart = inl (omega (arith, t.1));
    }

pub clear-flake : (s : Shape) (n f : ℕ) → n < s.n → f < s.p → (e : Entry) → EntryInside s e → Other n f e.nugget e.flake → Clear s (flake_at s n f) s.f e
clear-flake s n f a b e x h =
    record {
      nugget = x.nugget;
      flake = x.flake;
      tag_apart = inr (omega (arith, tag-inside s e.nugget e.flake x.nugget x.flake, parts_inside s));
      flake_apart = flakes_apart s n f e.nugget e.flake b x.flake h;
    }

pub clear-tag : (s : Shape) (n f : ℕ) → n < s.n → f < s.p → (e : Entry) → EntryInside s e → Other n f e.nugget e.flake → Clear s (tag_at s n f) 16 e
clear-tag s n f a b e x h =
    record {
      nugget = x.nugget;
      flake = x.flake;
      tag_apart = tags_apart s n f e.nugget e.flake b x.flake h;
      flake_apart = inl (omega (arith, tag-inside s n f a b, parts_inside s));
    }
