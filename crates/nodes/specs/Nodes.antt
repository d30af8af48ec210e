-- Document 01, "Keys, pads and hashes": leaf and inner node. "All hashes are BLAKE2s with 32 bytes out." Their messages are
-- those of crate `messages`.
use Rattle.std.specs.Prelude.{List, [], ℕ, ◌*◌, replicate}
use Rattle.base.specs.Lists.{part}
use Rattle.messages.specs.Messages.{leaf_message, inner_message}
use Rattle.layout.specs.Shape.{width_of}
use Rattle.layout.specs.Parts.{record_at, tag_at, node_at}
use Rattle.layout.specs.declared.Shape.{Shape}
use Rattle.blake2s.specs.Hash.{blake2s}

-- the 32 bytes of node i
abbrev pub node_in : Shape → List ℕ → ℕ → List ℕ
node_in s v i = part (node_at s i) 32 v

-- "the 18 record bytes", 18 the width of a record in version 1
abbrev pub record_part : Shape → List ℕ → ℕ → List ℕ
record_part s v n = part (record_at s n) (width_of s) v

-- "the nugget's P tags"
abbrev pub tags_part : Shape → List ℕ → ℕ → List ℕ
tags_part s v n = part (tag_at s n 0) (16 * s.p) v

-- "no key, `L`, nugget (4), the 18 record bytes, the nugget's P tags"
unfoldable pub leaf_of : Shape → List ℕ → ℕ → List ℕ
leaf_of s v n = blake2s [] (leaf_message n (record_part s v n) (tags_part s v n))

-- "no key, `T`, node 2i, node 2i + 1"
unfoldable pub inner_of : List ℕ → List ℕ → List ℕ
inner_of a b = blake2s [] (inner_message a b)

-- "Nodes L + N and above are 32 zeros."
unfoldable pub zero_leaf : List ℕ
zero_leaf = replicate 32 0
