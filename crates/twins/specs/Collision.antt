-- What is hashed for a node of a nugget's path, and two such messages with one value.
use Rattle.std.specs.Prelude.{◌≡◌, true, List, [], ℕ, ◌+◌, ◌-◌, ◌*◌, ltb}
use Rattle.base.specs.Pick.{pick}
use Rattle.messages.specs.Messages.{leaf_message, inner_message}
use Rattle.blake2s.specs.Hash.{blake2s}
use Rattle.layout.specs.Shape.{leaves}
use Rattle.layout.specs.declared.Shape.{Shape}
use Rattle.nodes.specs.Nodes.{node_in, record_part, tags_part}
use Rattle.tree.specs.Good.{on_path}

-- of node L + n: "`L`, nugget (4), the 18 record bytes, the nugget's P tags"
abbrev pub of_leaf : Shape → List ℕ → ℕ → List ℕ
of_leaf s v n = leaf_message n (record_part s v n) (tags_part s v n)

-- of an inner node: "`T`, node 2i, node 2i + 1"
abbrev pub of_inner : Shape → List ℕ → ℕ → List ℕ
of_inner s v i = inner_message (node_in s v (2 * i)) (node_in s v (2 * i + 1))

-- of node i; "Leaf, node L + n"
unfoldable pub message_of : Shape → List ℕ → ℕ → List ℕ
message_of s v i = pick (ltb i (leaves s.n)) (of_inner s v i) (of_leaf s v (i - leaves s.n))

-- at one node of the path of nugget n the two volumes have two different messages with the same BLAKE2s value
pub record Collision (s : Shape) (v w : List ℕ) (n : ℕ) : Type 0 where
  pub node : ℕ
  pub path : on_path s n node ≡ true
  pub differ : message_of s v node ≡ message_of s w node → ⊥
  pub alike : blake2s [] (message_of s v node) ≡ blake2s [] (message_of s w node)
