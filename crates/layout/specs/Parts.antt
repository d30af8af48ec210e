-- Document 01, "The volume, in order": head, records, tags, tree, flakes.
use Rattle.std.specs.Prelude.{ℕ, ◌+◌, ◌-◌, ◌*◌}
use Rattle.layout.specs.declared.Shape.{Shape}
use Rattle.layout.specs.Shape.{leaves, width_of}

-- "Head 104"
abbrev pub records_at : ℕ
records_at = 104

-- "Records 18 N"; document 02, Item 4: "Version 2 of the volume has 26-byte records"
abbrev pub tags_at : Shape → ℕ
tags_at s = records_at + s.n * width_of s

-- "Tags 16 N P"
abbrev pub tree_at : Shape → ℕ
tree_at s = tags_at s + 16 * (s.n * s.p)

-- "Tree 32 (2L - 1)"
abbrev pub flakes_at : Shape → ℕ
flakes_at s = tree_at s + 32 * (2 * leaves s.n - 1)

-- "Flakes N P F"
abbrev pub length_of : Shape → ℕ
length_of s = flakes_at s + s.n * s.p * s.f

-- record n
abbrev pub record_at : Shape → ℕ → ℕ
record_at s n = records_at + n * width_of s

-- tag n f: "nugget by nugget, flake by flake"
abbrev pub tag_at : Shape → ℕ → ℕ → ℕ
tag_at s n f = tags_at s + 16 * (n * s.p + f)

-- node i: "nodes 1 to 2L - 1"
abbrev pub node_at : Shape → ℕ → ℕ
node_at s i = tree_at s + 32 * i - 32

-- flake n f: "nugget by nugget"
abbrev pub flake_at : Shape → ℕ → ℕ → ℕ
flake_at s n f = flakes_at s + (n * s.p + f) * s.f
