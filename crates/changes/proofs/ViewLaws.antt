-- The volume after a change of nuggets, part by part: records, flakes with their tags, and the tree.
use mathlib.Core.Path.{◌≡◌, refl, ap, sym, ◌∙◌}
use mathlib.Core.Logic.{◌⊎◌, inl, inr, ⊎_elim}
use mathlib.Core.Bool.{true, false}
use mathlib.Core.List.{List}
use Prim.Native.Nat.{ℕ, ◌+◌, ◌-◌, ◌*◌, ◌<◌, ◌≤◌}
use native.Mathlib.Omega.{arith}
use lib.ListN.{drop}
use lib.Seq.{drop-drop}
use Rattle.records.proofs.RecordLaws.{record_told}
use Rattle.base.specs.Lists.{part}
use Rattle.base.proofs.PickLaws.{told, clash}
use Rattle.base.proofs.PartLaws.{part-below}
use Rattle.layout.specs.Shape.{width_of}
use Rattle.layout.specs.declared.Shape.{Shape}
use Rattle.layout.specs.Shaped.{Shaped}
use Rattle.layout.specs.Parts.{record_at, tree_at, flakes_at, tag_at, flake_at, node_at}
use Rattle.layout.proofs.Places.{apart, record_inside, tag-inside, node-inside, parts_inside}
use Rattle.records.specs.declared.Record.{Record}
use Rattle.records.specs.declared.Way.{Way}
use Rattle.records.specs.declared.Way.TheVariants.{Idle, Add, Rekey, Clear as Clears}
use Rattle.records.specs.Record.{Codes, record_of}
use Rattle.records.specs.Journal.{bit}
use Rattle.records.specs.Rule.{enciphered, keycount_after, turned}
use Rattle.records.specs.Listing.{Entry}
use Rattle.records.proofs.BitLaws.{bit-empty}
use Rattle.nodes.specs.Alike.{Alike, Outside}
use Rattle.nodes.proofs.StoreLaws.{outside-alike}
use Rattle.nodes.proofs.Bounds.{tags-inside}
use Rattle.tree.specs.Good.{AllGood, Beside}
use Rattle.tree.proofs.RenewLaws.{all_but, but_more}
use Rattle.tree.proofs.ChangeLaws.{changed_but}
use Rattle.drive.specs.declared.Drive.{Drive}
use Rattle.drive.specs.Drive.{shape_of}
use Rattle.nuggets.specs.Nugget.{lock_by}
use Rattle.changes.specs.Laid.{laid}
use Rattle.changes.specs.Change.{idles, pads_for, marked_to, worked}
use Rattle.changes.proofs.Each.{each_map, chosen, Below, each_to}
use Rattle.changes.proofs.CellLaws.{ordered}
use Rattle.changes.proofs.LaidLaws.{laid_lent, laid-leaves, Long, Clear}
use Rattle.changes.proofs.PadsLaws.{to_stands, laid-below, laid_record, laid-node}
use Rattle.changes.proofs.PutLaws.{Same, Under, same_trans, under_same, to_kept, to_put}
use Rattle.changes.proofs.MarkLaws.{marks_lent, marks_above, marks_idle, marks_put}
use Rattle.changes.proofs.TendLaws.{LeftFrom, tends_outside, tends_lent, tends_good}

-- parts behind the tree
part-behind : (at n m : ℕ) (v w : List ℕ) → m ≤ at → drop m w ≡ drop m v → part at n w ≡ part at n v
part-behind at n m v w h e =
    let q : m + (at - m) ≡ at = omega (arith, h) in
    let open_up : (u : List ℕ) → part at n u ≡ part (at - m) n (drop m u) = λ u. rw (drop-drop (at - m) m u, q) in
    open_up w ∙ ap (part (at - m) n) e ∙ sym (open_up v)

-- flakes and tags stand outside the tree
pub outside-same : {s : Shape} {v w : List ℕ} (n f : ℕ) → Outside s v w → n < s.n → f < s.p → Same s n f v w
outside-same {s} {v} {w} n f o a b =
    record {
      stored = part-behind (flake_at s n f) s.f (flakes_at s) v w (omega arith) o.above;
      tag = sym (part-below (tag_at s n f) 16 (tree_at s) v w (tag-inside s n f a b) o.below);
    }

-- an idle nugget enciphers nothing
idle-none : (way : Way) (r : Record) (f : ℕ) → idles way ≡ true → bit (enciphered way r) f ≡ false
unfolding enciphered
idle-none Idle r f e = bit-empty f
idle-none (Add t) r f e = absurd (clash e refl)
idle-none (Rekey t) r f e = absurd (clash e refl)
idle-none (Clears m) r f e = absurd (clash e refl)

module _ (d : Drive) (v : List ℕ) (way : ℕ → Way) (new : ℕ → ℕ → List ℕ) (l : Shaped (shape_of d) v) (long : Long (shape_of d) new) where
  abbrev s : Shape
  s = shape_of d

  abbrev one : List ℕ
  one = laid s d.salt new (pads_for d v way) v

  abbrev two : List ℕ
  two = marked_to s d.epoch way v d.n one

  one_lent : Shaped s one
  one_lent = laid_lent s d.salt new (pads_for d v way) v l

  two_lent : Shaped s two
  two_lent = marks_lent s d.epoch way v d.n one one_lent

  three-outside : Outside s two (worked d v way new)
  unfolding worked
  three-outside = tends_outside s way d.n two two_lent (omega arith)

  pub worked_lent : Shaped s (worked d v way new)
  unfolding worked
  worked_lent = tends_lent s way d.n two two_lent (omega arith)

  -- each record is the one turned in its nugget's way
  pub worked_record : (n : ℕ) → n < d.n → Codes (shape_of d) (turned (way n) d.epoch (record_of (shape_of d) v n)) → record_of (shape_of d) (worked d v way new) n ≡ turned (way n) d.epoch (record_of (shape_of d) v n)
  worked_record n h wide =
      record_told (shape_of d) (record_at (shape_of d) n) (worked d v way new) two (sym (outside-alike n three-outside h).records)
      ∙ marks_put s d.epoch way v n d.n one h wide (rw one_lent.size (omega (arith, record_inside s n h, parts_inside s)))
      (laid_record s d.salt new long n (pads_for d v way) v (to_stands s way (record_of (shape_of d) v) d.present d.n (omega arith)) h)

  two-same : (n f : ℕ) → n < d.n → f < d.p → Same s n f one two
  two-same n f a b =
      record {
        stored = marks_above s d.epoch way v (flake_at s n f) s.f d.n one (omega arith) (omega (arith, parts_inside s));
        tag = marks_above s d.epoch way v (tag_at s n f) 16 d.n one (omega arith) (omega arith);
      }

  last-same : (n f : ℕ) → n < d.n → f < d.p → Same s n f one (worked d v way new)
  last-same n f a b = same_trans (two-same n f a b) (outside-same n f three-outside a b)

  -- a flake that is enciphered is its new contents under its pad, with its tag; every other is as it was
  pub worked-put : (n f : ℕ) → n < d.n → f < d.p → chosen way (record_of (shape_of d) v) n f ≡ true
      → Under s f (lock_by s d.salt d.present n (keycount_after (way n) (record_of (shape_of d) v n))) (new n f) (worked d v way new)
  worked-put n f a b on = under_same (to_put s d.salt new long n f a b way (record_of (shape_of d) v) d.present d.n v l (omega arith) a on) (last-same n f a b)

  pub worked_kept : (n f : ℕ) → n < d.n → f < d.p → chosen way (record_of (shape_of d) v) n f ≡ false → Same s n f v (worked d v way new)
  worked_kept n f a b off = same_trans (to_kept s d.salt new long n f a b way (record_of (shape_of d) v) d.present d.n v (omega arith) (λ h. off)) (last-same n f a b)

  -- an idle nugget's record bytes and tags are as they were
  idle-clear : (m : ℕ) → m < d.n → idles (way m) ≡ true → (e : Entry) → Below (chosen way (record_of (shape_of d) v)) d.n d.p e → Clear s (tag_at s m 0) (16 * d.p) e
  idle-clear m h idle e x =
      let low = x.under in
      let few = x.few in
      let other : m ≡ e.nugget → ⊥ = λ q. clash x.holds (idle-none (way e.nugget) (record_of (shape_of d) v e.nugget) e.flake (ap (λ (i : ℕ). idles (way i)) (sym q) ∙ idle)) in
      record {
        nugget = low;
        flake = few;
        tag_apart =
            ⊎_elim (λ a. inl (omega (arith, apart d.p m e.nugget a)))
            (λ a. ⊎_elim (λ b. inr (omega (arith, apart d.p e.nugget m b, few))) (λ b. absurd (other (omega (arith, a, b)))) (ordered e.nugget m))
            (ordered m e.nugget);
        flake_apart = inl (omega (arith, tags-inside s m h, parts_inside s));
      }

  idle-alike : (m : ℕ) → m < d.n → idles (way m) ≡ true → Alike s v two m
  idle-alike m h idle =
      record {
        records =
            sym (marks_idle s d.epoch way v m d.n one idle
            ∙ laid-below s d.salt new long (record_at (shape_of d) m) (width_of (shape_of d)) (pads_for d v way) v (to_stands s way (record_of (shape_of d) v) d.present d.n (omega arith)) (record_inside s m h));
        tags =
            sym (marks_above s d.epoch way v (tag_at s m 0) (16 * d.p) d.n one (omega arith) (omega arith)
            ∙ laid-leaves s d.salt new long (tag_at s m 0) (16 * d.p) (pads_for d v way) v
            (each_map (Below (chosen way (record_of (shape_of d) v)) d.n d.p) (Clear s (tag_at s m 0) (16 * d.p)) (pads_for d v way) (idle-clear m h idle)
            (each_to d.p way (record_of (shape_of d) v) d.present d.n)));
      }

  two_beside : Beside s (LeftFrom s way 0) v two
  two_beside =
      record {
        nodes = λ i a b.
            sym (marks_above s d.epoch way v (node_at s i) 32 d.n one (omega arith) (omega (arith, (node-inside s i a b).0, parts_inside s))
            ∙ laid-node s d.salt new long i (pads_for d v way) v (to_stands s way (record_of (shape_of d) v) d.present d.n (omega arith)) a b);
        others = λ m h ne. ⊎_elim (λ e. idle-alike m h e) (λ e. absurd (ne (omega arith, e))) (told (idles (way m)));
      }

  -- a good tree is good again
  pub worked-good : AllGood s v → AllGood s (worked d v way new)
  unfolding worked
  worked-good g =
      tends_good s way two two_lent
      (but_more s two (λ m. ⊥ ⊎ LeftFrom s way 0 m) (LeftFrom s way 0) (λ m h x. ⊎_elim (λ z. absurd z) (λ y. y) x)
      (changed_but s v two (λ m. ⊥) (LeftFrom s way 0) two_beside (all_but s v (λ m. ⊥) g)))
