-- What a node has to be, the test that it is so, and a node stored anew.
use Rattle.std.specs.Prelude.{◌≡◌, Bool, List, ℕ, ◌+◌, ◌-◌, ◌*◌, ltb}
use Rattle.std.proofs.lemmas.List.Edits.{sets}
use Rattle.base.specs.Pick.{pick}
use Rattle.base.specs.Lists.{same}
use Rattle.layout.specs.Shape.{leaves}
use Rattle.layout.specs.Parts.{node_at}
use Rattle.layout.specs.declared.Shape.{Shape}
use Rattle.nodes.specs.Nodes.{node_in, leaf_of, inner_of, zero_leaf}

-- "Leaf, node L + n"; "Nodes L + N and above are 32 zeros"
unfoldable pub bottom_of : Shape → List ℕ → ℕ → List ℕ
bottom_of s v i = pick (ltb i (leaves s.n + s.n)) (leaf_of s v (i - leaves s.n)) zero_leaf

-- "each node stands over the two nodes below it": from node L on there are none below
unfoldable pub made_of : Shape → List ℕ → ℕ → List ℕ
made_of s v i = pick (ltb i (leaves s.n)) (inner_of (node_in s v (2 * i)) (node_in s v (2 * i + 1))) (bottom_of s v i)

-- node i is what it has to be, as a fact and as a test
abbrev pub Good : Shape → List ℕ → ℕ → Type 0
Good s v i = node_in s v i ≡ made_of s v i

unfoldable pub good_node : Shape → List ℕ → ℕ → Bool
good_node s v i = same (node_in s v i) (made_of s v i)

-- node i made anew, and nothing else
unfoldable pub store_node : Shape → ℕ → List ℕ → List ℕ
store_node s i v = sets v (node_at s i) (made_of s v i)
