-- Record, path, drive and head of a change, by what the code did.
use mathlib.Core.Path.{◌≡◌, refl, ap, sym, ◌∙◌}
use mathlib.Core.Bool.{true, false}
use mathlib.Core.List.{List}
use Prim.Native.Nat.{ℕ, ◌+◌}
use lib.Seq.{sets}
use Rattle.base.proofs.PickLaws.{yes, no}
use Rattle.layout.specs.declared.Shape.{Shape}
use Rattle.layout.specs.Parts.{record_at}
use Rattle.records.specs.declared.Record.{Record}
use Rattle.records.specs.declared.Way.{Way}
use Rattle.records.specs.Record.{record_bytes, record_of}
use Rattle.records.specs.Rule.{turned}
use Rattle.tree.specs.Renewed.{renewed}
use Rattle.drive.specs.declared.Drive.{Drive}
use Rattle.drive.specs.Drive.{shape_of, headed, kept_old}
use Rattle.drive.specs.Head.{head_of}
use Rattle.nodes.specs.Nodes.{node_in}
use Rattle.changes.specs.Change.{idles, marked, tended, advanced, settled}

-- the record that was read
pub read_is : (v : List ℕ) (n : ℕ) {z s : Shape} {r : Record} → r ≡ record_of z v n → z ≡ s → r ≡ record_of s v n
read_is v n e a = e ∙ ap (λ (x : Shape). record_of x v n) a

-- an idle nugget's record stays; another's is stored
module _ (s : Shape) (head : ℕ) (way : Way) (r : Record) (n : ℕ) (v : List ℕ) where
  pub marked_not : idles way ≡ true → v ≡ marked s head way r n v
  unfolding marked
  marked_not h = sym (yes _ h refl)

  pub marked_is : {z : Shape} {was after : Record} {w : List ℕ} → idles way ≡ false → z ≡ s → was ≡ r → after ≡ turned way head was
      → w ≡ sets v (record_at z n) (record_bytes z after) → w ≡ marked s head way r n v
  unfolding marked
  marked_is h ea er et ew = ew ∙ rw (ea, et, er) (sym (no _ h refl))

module _ (s : Shape) (way : Way) (n : ℕ) (v : List ℕ) where
  pub tended_not : idles way ≡ true → v ≡ tended s way n v
  unfolding tended
  tended_not h = sym (yes _ h refl)

  pub tended_is : idles way ≡ false → renewed s n v ≡ tended s way n v
  unfolding tended
  tended_is h = sym (no _ h refl)

module _ (d : Drive) (v : List ℕ) where
  pub settled_is : {made w : List ℕ} → made ≡ head_of d → w ≡ sets v 0 made → w ≡ settled d v
  unfolding settled
  settled_is e ew = ew ∙ rw e

  pub advanced_is : {s : Shape} {node kept : List ℕ} → s ≡ shape_of d → node ≡ node_in s v 1 → kept ≡ kept_old d.state d.old
      → headed d d.state d.epoch (d.counter + 1) node d.present kept ≡ advanced d v
  unfolding advanced
  advanced_is es en ek = rw (en, es, ek)
