-- The head stored last: it is the drive's, and nothing behind it changes.
use mathlib.Core.Path.{◌≡◌, sym, ◌∙◌}
use mathlib.Core.Logic.{◌⊎◌, ⊎_elim}
use mathlib.Core.List.{List}
use Prim.Native.Nat.{ℕ, ◌*◌, ◌≤◌}
use native.Mathlib.Omega.{arith}
use lib.ListN.{length}
use lib.Seq.{length-sets}
use Rattle.records.proofs.RecordLaws.{record_told}
use Rattle.base.specs.Lists.{part}
use Rattle.base.proofs.PartLaws.{part-sets, part-sets-above}
use Rattle.layout.specs.Shape.{width_of}
use Rattle.layout.specs.declared.Shape.{Shape}
use Rattle.layout.specs.Shaped.{Shaped}
use Rattle.layout.specs.Parts.{record_at, tag_at, flake_at, node_at}
use Rattle.layout.proofs.Places.{parts_inside}
use Rattle.nodes.specs.Nodes.{node_in}
use Rattle.tree.specs.Good.{AllGood, Beside}
use Rattle.tree.proofs.RenewLaws.{all_but, none_left_lem, but_more}
use Rattle.tree.proofs.ChangeLaws.{changed_but}
use Rattle.drive.specs.declared.Drive.{Drive}
use Rattle.drive.specs.Head.{head_of}
use Rattle.changes.specs.Change.{settled}
use Rattle.changes.proofs.PutLaws.{Same}
use Rattle.records.specs.Record.{record_of}

module _ (s : Shape) (d : Drive) (w : List ℕ) (long : length (head_of d) ≡ 104) where
  pub settled_lent : Shaped s w → Shaped s (settled d w)
  unfolding settled
  settled_lent l = record { limited = l.limited; size = length-sets w 0 (head_of d) ∙ l.size }

  pub settled-head : Shaped s w → part 0 104 (settled d w) ≡ head_of d
  unfolding settled
  settled-head l = part-sets w 0 104 (head_of d) long (rw l.size (omega arith))

  pub settled-behind : (at k : ℕ) → 104 ≤ at → part at k (settled d w) ≡ part at k w
  unfolding settled
  settled-behind at k h = part-sets-above at k w 0 (head_of d) (omega (arith, long, h))

  pub settled_record : (n : ℕ) → record_of s (settled d w) n ≡ record_of s w n
  settled_record n = record_told s (record_at s n) (settled d w) w (settled-behind (record_at s n) (width_of s) (omega arith))

  pub settled_same : (n f : ℕ) → Same s n f w (settled d w)
  settled_same n f =
      record { stored = settled-behind (flake_at s n f) s.f (omega (arith, parts_inside s)); tag = settled-behind (tag_at s n f) 16 (omega arith) }

  pub settled-node : (i : ℕ) → 1 ≤ i → node_in s (settled d w) i ≡ node_in s w i
  settled-node i h = settled-behind (node_at s i) 32 (omega (arith, h))

  pub settled-good : AllGood s w → AllGood s (settled d w)
  settled-good g =
      let u = settled d w in
      let beside : Beside s (λ m. ⊥) w u = record {
        nodes = λ i a b. sym (settled-node i a);
        others = λ m h ne. record { records = sym (settled-behind (record_at s m) (width_of s) (omega arith)); tags = sym (settled-behind (tag_at s m 0) (16 * s.p) (omega arith)) };
      } in
      none_left_lem s u (but_more s u (λ m. ⊥ ⊎ ⊥) (λ m. ⊥) (λ m h x. ⊎_elim (λ z. z) (λ z. z) x) (changed_but s w u (λ m. ⊥) (λ m. ⊥) beside (all_but s w (λ m. ⊥) g)))
