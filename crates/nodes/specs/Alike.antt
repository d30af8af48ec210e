-- Two volumes that agree in what a node is made of.
use Rattle.std.specs.Prelude.{◌≡◌, List, ℕ, length, take, drop}
use Rattle.layout.specs.Parts.{tree_at, flakes_at}
use Rattle.layout.specs.declared.Shape.{Shape}
use Rattle.nodes.specs.Nodes.{record_part, tags_part}

-- in the record bytes and tags of nugget n
pub record Alike (s : Shape) (v w : List ℕ) (n : ℕ) : Type 0 where
  pub records : record_part s v n ≡ record_part s w n
  pub tags : tags_part s v n ≡ tags_part s w n

-- in all that stands before the tree and behind it
pub record Outside (s : Shape) (v w : List ℕ) : Type 0 where
  pub long : length w ≡ length v
  pub below : take (tree_at s) w ≡ take (tree_at s) v
  pub above : drop (flakes_at s) w ≡ drop (flakes_at s) v
