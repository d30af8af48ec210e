-- Where records, tags and nodes of a lent volume lie, as bounds.
use mathlib.Core.List.{List}
use Prim.Native.Nat.{ℕ, ◌+◌, ◌*◌, ◌<◌, ◌≤◌}
use native.Mathlib.Omega.{arith}
use lib.ListN.{length}
use Rattle.layout.specs.Shape.{leaves}
use Rattle.layout.specs.Parts.{tree_at, flakes_at, tag_at, node_at}
use Rattle.layout.specs.declared.Shape.{Shape}
use Rattle.layout.proofs.Places.{apart}
use Rattle.layout.specs.Shaped.{Shaped}

pub tags-inside : (s : Shape) (n : ℕ) → n < s.n → tag_at s n 0 + 16 * s.p ≤ tree_at s
tags-inside s n h = omega (arith, apart s.p n s.n h)

pub nodes_apart : (s : Shape) (i j : ℕ) → i < j → node_at s i + 32 ≤ node_at s j
nodes_apart s i j h = omega arith

-- node i lies between the tags and the flakes
pub node-below : (s : Shape) (i : ℕ) → i < 2 * leaves s.n → node_at s i + 32 ≤ flakes_at s
node-below s i h = omega arith

pub node-above : (s : Shape) (i : ℕ) → 1 ≤ i → tree_at s ≤ node_at s i
node-above s i h = omega arith

pub node-fits : {s : Shape} {v : List ℕ} (i : ℕ) → Shaped s v → i < 2 * leaves s.n → node_at s i + 32 ≤ length v
node-fits {s} i l h = rw l.size (omega (arith, node-below s i h))
