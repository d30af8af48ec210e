-- "with leaf and path of each nugget it changed", and the tree that a format makes.
use Rattle.std.specs.Prelude.{List, ℕ, suc, ◌+◌, ◌-◌, ◌*◌}
use Rattle.layout.specs.Shape.{height_of, leaves}
use Rattle.layout.specs.declared.Shape.{Shape}
use Rattle.nodes.specs.Made.{store_node}
use Rattle.heaps.specs.Paths as Paths

-- node i and those above it, k in all, stored one after another
abbrev pub stored_up : Shape → ℕ → ℕ → List ℕ → List ℕ
stored_up s k i v = Paths.stored_up (store_node s) k i v

-- leaf L + n, then those above it up to node 1
unfoldable pub renewed : Shape → ℕ → List ℕ → List ℕ
renewed s n v = stored_up s (suc (height_of s.n)) (leaves s.n + n) v

-- nodes k down to 1
abbrev pub stored_down : Shape → ℕ → List ℕ → List ℕ
stored_down s k v = Paths.stored_down (store_node s) k v

-- "Tree 32 (2L - 1)": all nodes, each once
unfoldable pub built : Shape → List ℕ → List ℕ
built s v = stored_down s (2 * leaves s.n - 1) v
