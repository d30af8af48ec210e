-- What each part of the second buffer is once all is carried over: records, tags, flakes and the tree.
use mathlib.Core.Path.{◌≡◌, refl, sym, ap, ◌∙◌}
use mathlib.Core.Bool.{Bool, true, false}
use mathlib.Core.Logic.{inl, inr, ⊎_elim}
use mathlib.Core.List.{List}
use Prim.Native.Nat.{ℕ, zero, suc, ◌+◌, ◌*◌, ◌<◌, ◌≤◌}
use native.Mathlib.Nat.{mul-le-mul_right}
use native.Mathlib.Omega.{arith}
use lib.ListN.{length, take, length-replicate}
use lib.Seq.{sets, length-sets}
use Rattle.base.specs.Pick.{pick}
use Rattle.base.specs.Lists.{part}
use Rattle.base.proofs.PartLaws.{length_part, part-part, part-sets}
use Rattle.layout.specs.declared.Shape.{Shape}
use Rattle.layout.specs.Shape.{in_limits, width_of}
use Rattle.layout.specs.Shaped.{Shaped}
use Rattle.layout.specs.Parts.{flakes_at, length_of, record_at, tag_at, flake_at}
use Rattle.layout.specs.Spots.{capacity}
use Rattle.layout.proofs.Places.{index_lt, record_inside, tag-inside, parts_inside}
use Rattle.records.specs.declared.Record.{Record}
use Rattle.records.specs.Journal.{bit}
use Rattle.records.specs.Record.{record_bytes, record_of}
use Rattle.records.proofs.RecordLaws.{length_record}
use Rattle.keys.specs.Tags.{tag_of}
use Rattle.keys.proofs.TagLaws.{length-tag}
use Rattle.nodes.specs.Nodes.{record_part}
use Rattle.nodes.specs.Alike.{Outside}
use Rattle.nodes.proofs.StoreLaws.{outside-alike}
use Rattle.tree.specs.Good.{AllGood}
use Rattle.tree.proofs.BuildLaws.{built-outside, built-good}
use Rattle.drive.specs.declared.Drive.{Drive}
use Rattle.drive.specs.Drive.{shape_of, zeros}
use Rattle.nuggets.specs.declared.Nugget.{Nugget}
use Rattle.nuggets.specs.Nugget.{stored_in}
use Rattle.changes.proofs.CellLaws.{Apart, part_apart, ordered, tags_apart}
use Rattle.changes.proofs.MarkLaws.{records_apart}
use Rattle.changes.proofs.ViewLaws.{outside-same}
use Rattle.moving.specs.Carry.{entered, nugget_under, copied, new_tag, tags_to, carried, carried_to, carried_over}
use Rattle.moving.proofs.CarryLaws.{length-copied, length-tags, length-all, length_over}

module _ (e : ℕ) (d : Drive) (v : List ℕ) (lent : Shaped (shape_of d) v) (limited : in_limits (entered e d) ≡ true) where
  abbrev s : Shape
  s = shape_of d

  abbrev t : Shape
  t = entered e d

  -- a tag has 16 bytes, whether made or copied
  length_new : (g : Nugget) (f : ℕ) → g.lock.number < d.n → f < d.p → length (new_tag s v g f) ≡ 16
  unfolding new_tag
  length_new g f a b = go (bit g.held f)
    where
      go : (on : Bool) → length (pick on (tag_of g.lock f (stored_in s v g.lock.number f)) (part (tag_at s g.lock.number f) 16 v)) ≡ 16
      go true = length-tag g.lock f _
      go false = length_part (tag_at s g.lock.number f) 16 v (rw lent.size (omega (arith, tag-inside s g.lock.number f a b, parts_inside s)))

  -- the tags of a nugget: each is the new one, and what doesn't meet them stays
  module _ (g : Nugget) (low : g.lock.number < d.n) where
    abbrev at_tag : ℕ → ℕ
    at_tag f = tag_at t g.lock.number f

    tags-leave : (at k p : ℕ) (w : List ℕ) → p ≤ d.p → ((f : ℕ) → f < p → Apart at k (at_tag f) 16) → part at k (tags_to s t v g p w) ≡ part at k w
    unfolding tags_to
    tags-leave at k zero w few h = refl
    tags-leave at k (suc p) w few h =
        part_apart at k (tags_to s t v g p w) (at_tag p) 16 (new_tag s v g p) (length_new g p low (omega arith)) (h p (omega arith))
        ∙ tags-leave at k p w (omega arith) (λ f c. h f (omega (arith, c)))

    tags-put : (f p : ℕ) (w : List ℕ) → length w ≡ length_of t → p ≤ d.p → f < p → part (at_tag f) 16 (tags_to s t v g p w) ≡ new_tag s v g f
    unfolding tags_to
    tags-put f zero w long few h = absurd (omega arith)
    tags-put f (suc p) w long few h =
        ⊎_elim
        (λ less.
        part_apart (at_tag f) 16 (tags_to s t v g p w) (at_tag p) 16 (new_tag s v g p) (length_new g p low (omega arith)) (inl (omega (arith, less)))
        ∙ tags-put f p w long (omega arith) less)
        (λ last. mine p (omega (arith, h, last)))
        (ordered f p)
      where
        mine : (q : ℕ) → f ≡ q → part (at_tag f) 16 (sets (tags_to s t v g q w) (at_tag q) (new_tag s v g q)) ≡ new_tag s v g f
        mine q same =
            rw (← same)
            (part-sets (tags_to s t v g f w) (at_tag f) 16 (new_tag s v g f) (length_new g f low (omega (arith, h, few)))
            (rw (length-tags s t v g w f, long) (omega (arith, tag-inside t g.lock.number f low (omega (arith, h, few)), parts_inside t))))

  -- a nugget
  abbrev was : ℕ → Record
  was n = record_of s v n

  abbrev own : ℕ → Nugget
  own n = nugget_under d t (was n) n

  nugget-leaves : (at k n : ℕ) (w : List ℕ) → n < d.n → Apart at k (record_at t n) (width_of t) → ((f : ℕ) → f < d.p → Apart at k (tag_at t n f) 16)
      → part at k (carried d t v n w) ≡ part at k w
  unfolding carried
  nugget-leaves at k n w h record_off tags-off =
      tags-leave (own n) h at k d.p (sets w (record_at t n) (record_bytes t (was n))) (omega arith) tags-off
      ∙ part_apart at k w (record_at t n) (width_of t) (record_bytes t (was n)) (length_record t (was n)) record_off

  nugget_record : (n : ℕ) (w : List ℕ) → length w ≡ length_of t → n < d.n → record_part t (carried d t v n w) n ≡ record_bytes t (was n)
  unfolding carried
  nugget_record n w long h =
      tags-leave (own n) h (record_at t n) (width_of t) d.p (sets w (record_at t n) (record_bytes t (was n))) (omega arith) (λ f c. inl (omega (arith, record_inside t n h)))
      ∙ part-sets w (record_at t n) (width_of t) (record_bytes t (was n)) (length_record t (was n)) (rw long (omega (arith, record_inside t n h, parts_inside t)))

  nugget-tag : (n f : ℕ) (w : List ℕ) → length w ≡ length_of t → n < d.n → f < d.p → part (tag_at t n f) 16 (carried d t v n w) ≡ new_tag s v (own n) f
  unfolding carried
  nugget-tag n f w long h b =
      tags-put (own n) h f d.p (sets w (record_at t n) (record_bytes t (was n))) (length-sets w (record_at t n) (record_bytes t (was n)) ∙ long) (omega arith) b

  -- all nuggets below m
  all-leave : (at k m : ℕ) (w : List ℕ) → m ≤ d.n → ((n : ℕ) → n < m → Apart at k (record_at t n) (width_of t))
      → ((n f : ℕ) → n < m → f < d.p → Apart at k (tag_at t n f) 16) → part at k (carried_to d t v m w) ≡ part at k w
  unfolding carried_to
  all-leave at k zero w few x y = refl
  all-leave at k (suc m) w few x y =
      nugget-leaves at k m (carried_to d t v m w) (omega arith) (x m (omega arith)) (λ f c. y m f (omega arith) c)
      ∙ all-leave at k m w (omega arith) (λ n c. x n (omega (arith, c))) (λ n f c b. y n f (omega (arith, c)) b)

  all_record : (n m : ℕ) (w : List ℕ) → length w ≡ length_of t → m ≤ d.n → n < m → record_part t (carried_to d t v m w) n ≡ record_bytes t (was n)
  unfolding carried_to
  all_record n zero w long few h = absurd (omega arith)
  all_record n (suc m) w long few h =
      ⊎_elim
      (λ less.
      nugget-leaves (record_at t n) (width_of t) m (carried_to d t v m w) (omega arith) (records_apart t n m (λ q. omega (arith, q, less)))
      (λ f c. inl (omega (arith, record_inside t n (omega (arith, less, few)))))
      ∙ all_record n m w long (omega arith) less)
      (λ last. mine m (omega (arith, h, last)))
      (ordered n m)
    where
      mine : (q : ℕ) → n ≡ q → record_part t (carried d t v q (carried_to d t v q w)) n ≡ record_bytes t (was n)
      mine q same = rw (← same) (nugget_record n (carried_to d t v n w) (length-all d t v n w ∙ long) (omega (arith, h, few)))

  all-tag : (n f m : ℕ) (w : List ℕ) → length w ≡ length_of t → m ≤ d.n → n < m → f < d.p → part (tag_at t n f) 16 (carried_to d t v m w) ≡ new_tag s v (own n) f
  unfolding carried_to
  all-tag n f zero w long few h b = absurd (omega arith)
  all-tag n f (suc m) w long few h b =
      ⊎_elim
      (λ less.
      nugget-leaves (tag_at t n f) 16 m (carried_to d t v m w) (omega arith) (inr (omega (arith, record_inside t m (omega arith))))
      (λ g c. tags_apart t n f m g b c (λ q r. omega (arith, q, less)))
      ∙ all-tag n f m w long (omega arith) less b)
      (λ last. mine m (omega (arith, h, last)))
      (ordered n m)
    where
      mine : (q : ℕ) → n ≡ q → part (tag_at t n f) 16 (carried d t v q (carried_to d t v q w)) ≡ new_tag s v (own n) f
      mine q same = rw (← same) (nugget-tag n f (carried_to d t v n w) (length-all d t v n w ∙ long) (omega (arith, h, few)) b)

  -- the flakes as they were copied
  flake-copied : (n f : ℕ) → n < d.n → f < d.p → stored_in t (copied s t v) n f ≡ stored_in s v n f
  unfolding copied
  flake-copied n f a b =
      let j = (n * d.p + f) * d.f in
      let room : j + d.f ≤ capacity s = omega (arith, mul-le-mul_right d.f (index_lt s n f a b)) in
      let whole = part (flakes_at s) (capacity s) v in
      let long : length whole ≡ capacity s = length_part (flakes_at s) (capacity s) v (rw lent.size (omega arith)) in
      let z = zeros (length_of t) in
      sym (part-part j d.f (flakes_at t) (capacity s) (sets z (flakes_at t) whole) room)
      ∙ ap (λ (x : List ℕ). part j d.f x) (part-sets z (flakes_at t) (capacity s) whole long (rw (length-replicate {A = ℕ} (length_of t) 0) (omega arith)))
      ∙ part-part j d.f (flakes_at s) (capacity s) v room

  -- and over all that the tree
  abbrev bare : List ℕ
  bare = carried_to d t v d.n (copied s t v)

  bare-long : length bare ≡ length_of t
  bare-long = length-all d t v d.n (copied s t v) ∙ length-copied s t v

  bare_lent : Shaped t bare
  bare_lent = record { limited = limited; size = bare-long }

  outside : Outside t bare (carried_over d t v)
  unfolding carried_over
  outside = built-outside t bare

  pub over_lent : Shaped t (carried_over d t v)
  over_lent = record { limited = limited; size = length_over d t v }

  pub over-good : AllGood t (carried_over d t v)
  unfolding carried_over
  over-good = built-good t bare bare_lent

  pub over_record : (n : ℕ) → n < d.n → record_part t (carried_over d t v) n ≡ record_bytes t (was n)
  over_record n h = sym (outside-alike n outside h).records ∙ all_record n d.n (copied s t v) (length-copied s t v) (omega arith) h

  pub over-tag : (n f : ℕ) → n < d.n → f < d.p → part (tag_at t n f) 16 (carried_over d t v) ≡ new_tag s v (own n) f
  over-tag n f a b = (outside-same n f outside a b).tag ∙ all-tag n f d.n (copied s t v) (length-copied s t v) (omega arith) a b

  pub over-stored : (n f : ℕ) → n < d.n → f < d.p → stored_in t (carried_over d t v) n f ≡ stored_in s v n f
  over-stored n f a b =
      (outside-same n f outside a b).stored
      ∙ all-leave (flake_at t n f) d.f d.n (copied s t v) (omega arith) (λ m c. inr (omega (arith, record_inside t m c, parts_inside t)))
      (λ m g c l. inr (omega (arith, tag-inside t m g c l, parts_inside t)))
      ∙ flake-copied n f a b

  -- and all of them at once
  pub over-flakes : part (flakes_at t) (capacity t) (carried_over d t v) ≡ part (flakes_at s) (capacity s) v
  unfolding copied
  over-flakes =
      let whole = part (flakes_at s) (capacity s) v in
      let z = zeros (length_of t) in
      ap (λ (x : List ℕ). take (capacity t) x) outside.above
      ∙ all-leave (flakes_at t) (capacity t) d.n (copied s t v) (omega arith) (λ m c. inr (omega (arith, record_inside t m c, parts_inside t)))
      (λ m g c l. inr (omega (arith, tag-inside t m g c l, parts_inside t)))
      ∙ part-sets z (flakes_at t) (capacity s) whole (length_part (flakes_at s) (capacity s) v (rw lent.size (omega arith)))
      (rw (length-replicate {A = ℕ} (length_of t) 0) (omega arith))
