-- The tree built afresh, from records and tags alone.
use Rattle.std.specs.Prelude.{List, ℕ, zero, suc, ◌+◌, ◌*◌}
use Rattle.layout.specs.declared.Shape.{Shape}
use Rattle.nodes.specs.Nodes.{inner_of}
use Rattle.nodes.specs.Made.{bottom_of}

-- the node that the subtree of height h under node i has to have
unfoldable pub tree_from : Shape → List ℕ → ℕ → ℕ → List ℕ
tree_from s v zero i = bottom_of s v i
tree_from s v (suc h) i = inner_of (tree_from s v h (2 * i)) (tree_from s v h (2 * i + 1))
