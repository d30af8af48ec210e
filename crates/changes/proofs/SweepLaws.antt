-- A sweep, or a discard, changes one nugget: all others are idle, and each flake keeps its contents.
use mathlib.Core.Path.{◌≡◌, refl, sym, ◌∙◌, ap}
use mathlib.Core.Bool.{Bool, true, false}
use mathlib.Core.List.{List, [], ◌∷◌}
use Prim.Native.Nat.{ℕ, suc, ◌-◌, ◌<◌}
use native.Mathlib.Omega.{arith}
use borrow.Author.Tests.{eq-eqb, ne_eqb, le-ltb}
use lib.Dec.{leb, ltb}
use lib.ListN.{length, get_or}
use lib.Seq.{ext_get_or}
use Rattle.base.specs.Pick.{pick, both}
use Rattle.base.proofs.PickLaws.{yes, no}
use Rattle.base.proofs.TabLaws.{length-tab, get_or-tab}
use Rattle.layout.specs.declared.Shape.{Shape}
use Rattle.layout.specs.Shaped.{Shaped}
use Rattle.layout.specs.Spots.{offset_at}
use Rattle.records.specs.declared.Record.{Record}
use Rattle.records.specs.declared.Way.{Way}
use Rattle.records.specs.declared.Way.TheVariants.{Idle}
use Rattle.records.specs.Rule.{sweep_way}
use Rattle.records.specs.Listing.{Entry, pads_by, pads_to}
use Rattle.drive.specs.declared.Drive.{Drive}
use Rattle.drive.specs.Drive.{shape_of}
use Rattle.nuggets.specs.Nugget.{nugget_of, contents_of}
use Rattle.nuggets.proofs.PieceLaws.{length-contents}
use Rattle.changes.specs.Laid.{over, written, laid_entry, laid}
use Rattle.changes.specs.Change.{only_at, pads_for, marked, marked_to, tended, tended_to, worked}
use Rattle.changes.specs.Write.{new_contents}
use Rattle.changes.specs.Rekey.{sweep_ways, sweep_work}
use Rattle.changes.proofs.Each.{Each, each_map}
use Rattle.changes.proofs.LaidLaws.{EntryInside}
use Rattle.changes.proofs.PadsLaws.{to_stands, laid_record}
use Rattle.changes.proofs.SpanLaws.{still_to, pads-idle_to, marked-idle, tended-idle}
use Rattle.records.specs.Record.{record_of}

pub way_own : (n : ℕ) (way : Way) → only_at n way n ≡ way
way_own n way = yes _ (eq-eqb n n refl) refl

pub way_other : (n : ℕ) (way : Way) (m : ℕ) → (m ≡ n → ⊥) → only_at n way m ≡ Idle
way_other n way m h = no _ (ne_eqb m n h) refl

-- an account that moves at n alone
alone : {A : Type 0} (f : ℕ → A) (n k : ℕ) → n < k → ((m : ℕ) → (m ≡ n → ⊥) → f (suc m) ≡ f m) → (f k ≡ f (suc n)) × (f n ≡ f 0)
alone f n k h g = (still_to f (suc n) k h (λ m a b. g m (λ e. omega (arith, a, e))), still_to f 0 n (omega arith) (λ m a b. g m (λ e. omega (arith, b, e))))

-- what is listed, marked and tended is the nugget's own
module _ (n k : ℕ) (h : n < k) (way : Way) where
  pub only_pads : (p : ℕ) (records : ℕ → Record) (s : List ℕ) → pads_to p (only_at n way) records s k ≡ pads_by p way n (records n) s
  unfolding pads_to
  only_pads p records s =
      let (behind, before) = alone (pads_to p (only_at n way) records s) n k h (λ m q. pads-idle_to (only_at n way) m (way_other n way m q) p records s) in
      behind ∙ rw (before, way_own n way)

  pub only_marks : (s : Shape) (head : ℕ) (v w : List ℕ) → marked_to s head (only_at n way) v k w ≡ marked s head way (record_of s v n) n w
  unfolding marked_to
  only_marks s head v w =
      let (behind, before) = alone (λ m. marked_to s head (only_at n way) v m w) n k h (λ m q. marked-idle (only_at n way) m (way_other n way m q) s head v w) in
      behind ∙ rw (before, way_own n way)

  pub only_tends : (s : Shape) (w : List ℕ) → tended_to s (only_at n way) k w ≡ tended s way n w
  unfolding tended_to
  only_tends s w =
      let (behind, before) = alone (λ m. tended_to s (only_at n way) m w) n k h (λ m q. tended-idle (only_at n way) m (way_other n way m q) s w) in
      behind ∙ rw (before, way_own n way)

-- no bytes written leave the contents
none_over : (a was : ℕ) → over 0 [] a was ≡ was
none_over a was = go (leb 0 a) (ltb a 0) (le-ltb a 0 (omega arith))
  where
    go : (x y : Bool) → y ≡ false → pick (both x y) (get_or [] (a - 0) 0) was ≡ was
    go true y e = rw e refl
    go false y e = refl

pub none_written : (s : Shape) (n f : ℕ) (was : List ℕ) → length was ≡ s.f → written s 0 [] n f was ≡ was
unfolding written
none_written s n f was e =
    ext_get_or 0 (written s 0 [] n f was) was (length-tab s.f _ ∙ sym e) (λ i q.
    get_or-tab s.f _ i 0 (omega (arith, q, length-tab s.f (λ b. over 0 [] (offset_at s n f b) (get_or was b 0)))) ∙ none_over (offset_at s n f i) (get_or was i 0))

pub kept-contents : (d : Drive) (v : List ℕ) → Shaped (shape_of d) v → (n f : ℕ) → n < d.n → f < d.p → new_contents d v 0 [] n f ≡ contents_of d v n f
kept-contents d v l n f a b = none_written (shape_of d) n f (contents_of d v n f) (length-contents (shape_of d) v (nugget_of d v n) f l a b)

-- the same new contents of each entry are laid alike
pub laid-alike : (s : Shape) (salt : List ℕ) (a b : ℕ → ℕ → List ℕ) (es : List Entry) (v : List ℕ) → Each (λ e. a e.nugget e.flake ≡ b e.nugget e.flake) es
    → laid s salt a es v ≡ laid s salt b es v
unfolding laid laid_entry
laid-alike s salt a b [] v x = refl
laid-alike s salt a b (e ∷ es) v x = rw x.0 (laid-alike s salt a b es _ x.1)

module _ (d : Drive) (v : List ℕ) (n : ℕ) (l : Shaped (shape_of d) v) (h : n < d.n) where
  -- the nugget's own flakes and tags, laid as a write of no bytes lays them
  pub sweep_lays : laid (shape_of d) d.salt (new_contents d v 0 []) (pads_by d.p sweep_way n (record_of (shape_of d) v n) d.present) v
      ≡ laid (shape_of d) d.salt (contents_of d v) (pads_for d v (sweep_ways n)) v
  sweep_lays =
      let s = shape_of d in
      let own : pads_for d v (sweep_ways n) ≡ pads_by d.p sweep_way n (record_of (shape_of d) v n) d.present = only_pads n d.n h sweep_way d.p (record_of (shape_of d) v) d.present in
      ap (λ (es : List Entry). laid s d.salt (new_contents d v 0 []) es v) (sym own)
      ∙ laid-alike s d.salt (new_contents d v 0 []) (contents_of d v) (pads_for d v (sweep_ways n)) v
      (each_map (EntryInside s) (λ e. new_contents d v 0 [] e.nugget e.flake ≡ contents_of d v e.nugget e.flake) (pads_for d v (sweep_ways n))
      (λ e o. kept-contents d v l e.nugget e.flake o.nugget o.flake) (to_stands s (sweep_ways n) (record_of (shape_of d) v) d.present d.n (omega arith)))

  module _ {x : List ℕ} (e : x ≡ laid (shape_of d) d.salt (new_contents d v 0 []) (pads_by d.p sweep_way n (record_of (shape_of d) v n) d.present) v) where
    -- its record stands through that
    pub sweep_record : record_of (shape_of d) x n ≡ record_of (shape_of d) v n
    sweep_record =
        let s = shape_of d in
        ap (λ (u : List ℕ). record_of (shape_of d) u n) (e ∙ sweep_lays)
        ∙ laid_record s d.salt (contents_of d v) (λ m f a b. length-contents s v (nugget_of d v m) f l a b) n (pads_for d v (sweep_ways n)) v
        (to_stands s (sweep_ways n) (record_of (shape_of d) v) d.present d.n (omega arith)) h

    -- its record, and its leaf and path, are all that is left to store before the head
    pub sweep_works : {y z : List ℕ} {s : Shape} → y ≡ marked (shape_of d) d.epoch sweep_way (record_of (shape_of d) x n) n x → s ≡ shape_of d → z ≡ tended s sweep_way n y → z ≡ sweep_work d v n
    unfolding worked
    sweep_works {y} p r q =
        let w = laid (shape_of d) d.salt (contents_of d v) (pads_for d v (sweep_ways n)) v in
        q
        ∙ ap (λ (s : Shape). tended s sweep_way n y) r
        ∙ ap (λ (u : List ℕ). tended (shape_of d) sweep_way n u)
        (p
        ∙ ap (λ (r : Record). marked (shape_of d) d.epoch sweep_way r n x) sweep_record
        ∙ ap (λ (u : List ℕ). marked (shape_of d) d.epoch sweep_way (record_of (shape_of d) v n) n u) (e ∙ sweep_lays)
        ∙ sym (only_marks n d.n h sweep_way (shape_of d) d.epoch v w))
        ∙ sym (only_tends n d.n h sweep_way (shape_of d) (marked_to (shape_of d) d.epoch (sweep_ways n) v d.n w))
