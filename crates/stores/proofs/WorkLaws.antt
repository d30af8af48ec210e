-- The list of a change, laid over the volume, is the change.
use mathlib.Core.Path.{◌≡◌, refl, ap, ◌∙◌}
use mathlib.Core.Bool.{Bool, true, false}
use mathlib.Core.List.{List, [], ◌∷◌, ◌++◌}
use Prim.Native.Nat.{ℕ, zero, suc, ◌+◌, ◌/◌}
use lib.Seq.{sets}
use Rattle.base.specs.Pick.{pick}
use Rattle.layout.specs.declared.Shape.{Shape}
use Rattle.layout.specs.Shape.{height_of, leaves}
use Rattle.layout.specs.Parts.{record_at}
use Rattle.records.specs.declared.Record.{Record}
use Rattle.records.specs.declared.Way.{Way}
use Rattle.records.specs.Record.{record_bytes, record_of}
use Rattle.records.specs.Rule.{turned}
use Rattle.records.specs.Listing.{Entry}
use Rattle.nodes.specs.Made.{store_node}
use Rattle.heaps.specs.Paths as Paths
use Rattle.tree.specs.Renewed.{stored_up, renewed}
use Rattle.drive.specs.declared.Drive.{Drive}
use Rattle.drive.specs.Drive.{shape_of}
use Rattle.changes.specs.Laid.{laid_flake, laid_entry, laid}
use Rattle.changes.specs.Change.{idles, pads_for, marked, marked_to, tended, tended_to, worked, settled}
use Rattle.stores.specs.Store.{Store, store, applied}
use Rattle.stores.specs.Work.{flake_stores, entry_stores, laid_stores, record_stores, mark_stores, up_stores, path_stores, tend_stores, work_stores, head_stores}

-- one list after another
pub applied-append : (xs ys : List Store) (v : List ℕ) → applied (xs ++ ys) v ≡ applied ys (applied xs v)
unfolding applied
applied-append [] ys v = refl
applied-append (x ∷ xs) ys v = applied-append xs ys (sets v x.at x.bytes)

-- a list that is laid only if a test holds
pub applied-pick : (b : Bool) (xs : List Store) (v : List ℕ) {w : List ℕ} → applied xs v ≡ w → applied (pick b xs []) v ≡ pick b w v
unfolding applied
applied-pick true xs v e = e
applied-pick false xs v e = refl

applied_unless : (b : Bool) (xs : List Store) (v : List ℕ) {w : List ℕ} → applied xs v ≡ w → applied (pick b [] xs) v ≡ pick b v w
unfolding applied
applied_unless true xs v e = refl
applied_unless false xs v e = e

-- flakes and tags
pub laid_stores_lem : (s : Shape) (salt : List ℕ) (new : ℕ → ℕ → List ℕ) (es : List Entry) (v : List ℕ) → applied (laid_stores s salt new es) v ≡ laid s salt new es v
unfolding applied laid_stores laid entry_stores flake_stores laid_entry laid_flake
laid_stores_lem s salt new [] v = refl
laid_stores_lem s salt new (e ∷ es) v = applied-append (entry_stores s salt new e) (laid_stores s salt new es) v ∙ laid_stores_lem s salt new es (laid_entry s salt new e v)

-- records
record_stores_lem : (s : Shape) (head : ℕ) (way : Way) (r : Record) (n : ℕ) (w : List ℕ) → applied (record_stores s head way r n) w ≡ marked s head way r n w
unfolding record_stores marked applied
record_stores_lem s head way r n w = applied_unless (idles way) (store (record_at s n) (record_bytes s (turned way head r)) ∷ []) w refl

pub mark_stores_lem : (s : Shape) (head : ℕ) (way : ℕ → Way) (v : List ℕ) (n : ℕ) (w : List ℕ) → applied (mark_stores s head way v n) w ≡ marked_to s head way v n w
unfolding mark_stores marked_to applied
mark_stores_lem s head way v zero w = refl
mark_stores_lem s head way v (suc n) w =
    applied-append (mark_stores s head way v n) (record_stores s head (way n) (record_of s v n) n) w
    ∙ ap (applied (record_stores s head (way n) (record_of s v n) n)) (mark_stores_lem s head way v n w)
    ∙ record_stores_lem s head (way n) (record_of s v n) n (marked_to s head way v n w)

-- leaves and paths
up_stores_lem : (s : Shape) (k i : ℕ) (w : List ℕ) → applied (up_stores s k i w) w ≡ stored_up s k i w
unfolding up_stores Paths.stored_up store_node applied
up_stores_lem s zero i w = refl
up_stores_lem s (suc k) i w = up_stores_lem s k (i / 2) (store_node s i w)

path_stores_lem : (s : Shape) (way : Way) (n : ℕ) (w : List ℕ) → applied (path_stores s way n w) w ≡ tended s way n w
unfolding path_stores tended renewed
path_stores_lem s way n w =
    applied_unless (idles way) (up_stores s (suc (height_of s.n)) (leaves s.n + n) w) w (up_stores_lem s (suc (height_of s.n)) (leaves s.n + n) w)

pub tend_stores_lem : (s : Shape) (way : ℕ → Way) (n : ℕ) (w : List ℕ) → applied (tend_stores s way n w) w ≡ tended_to s way n w
unfolding tend_stores tended_to applied
tend_stores_lem s way zero w = refl
tend_stores_lem s way (suc n) w =
    applied-append (tend_stores s way n w) (path_stores s (way n) n (tended_to s way n w)) w
    ∙ ap (applied (path_stores s (way n) n (tended_to s way n w))) (tend_stores_lem s way n w)
    ∙ path_stores_lem s (way n) n (tended_to s way n w)

-- the head
pub head_stores_lem : (e : Drive) (w : List ℕ) → applied (head_stores e) w ≡ settled e w
unfolding head_stores settled applied
head_stores_lem e w = refl

-- a change of nuggets
module _ (d : Drive) (v : List ℕ) (way : ℕ → Way) (new : ℕ → ℕ → List ℕ) where
  abbrev s : Shape
  s = shape_of d

  abbrev one : List ℕ
  one = laid s d.salt new (pads_for d v way) v

  abbrev two : List ℕ
  two = marked_to s d.epoch way v d.n one

  pub work_stores_lem : applied (work_stores d v way new) v ≡ worked d v way new
  unfolding work_stores worked
  work_stores_lem =
      let marks = mark_stores s d.epoch way v d.n in
      let tends = tend_stores s way d.n two in
      applied-append (laid_stores s d.salt new (pads_for d v way)) (marks ++ tends) v
      ∙ ap (applied (marks ++ tends)) (laid_stores_lem s d.salt new (pads_for d v way) v)
      ∙ applied-append marks tends one
      ∙ ap (applied tends) (mark_stores_lem s d.epoch way v d.n one)
      ∙ tend_stores_lem s way d.n two

  -- and the head over it
  pub change_stores : (e : Drive) → applied (work_stores d v way new ++ head_stores e) v ≡ settled e (worked d v way new)
  change_stores e = applied-append (work_stores d v way new) (head_stores e) v ∙ ap (applied (head_stores e)) work_stores_lem ∙ head_stores_lem e (worked d v way new)
