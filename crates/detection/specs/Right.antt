-- When a volume is right: said of its bytes by BLAKE2s and Poly1305 themselves, with none of the tests that the calls make.
use Rattle.std.specs.Prelude.{ℕ, ◌+◌, ◌*◌, ◌/◌, ◌^◌, ◌<◌, ◌≤◌, ◌≡◌, true, false, ◌⊎◌, List, [], length}
use Rattle.base.specs.Lists.{part}
use Rattle.messages.specs.Messages.{leaf_message, inner_message}
use Rattle.blake2s.specs.Hash.{blake2s}
use Rattle.poly1305.specs.Poly1305.{poly1305}
use Rattle.layout.specs.declared.Shape.{Shape}
use Rattle.layout.specs.Shape.{height_of, leaves}
use Rattle.layout.specs.Parts.{length_of, tag_at}
use Rattle.records.specs.declared.Record.{Record}
use Rattle.records.specs.Journal.{bit}
use Rattle.keys.specs.Keys.{tag_key}
use Rattle.keys.specs.Tags.{covered}
use Rattle.nodes.specs.Nodes.{node_in, record_part, tags_part}
use Rattle.records.specs.Record.{record_of}
use Rattle.drive.specs.declared.Drive.{Drive}
use Rattle.drive.specs.Drive.{shape_of, is_changing, zeros}
use Rattle.drive.specs.Head.{head_of}
use Rattle.nuggets.specs.Nugget.{lock_for, stored_in}

-- "the 104 bytes are those the drive makes, and the volume's node 1 is the drive's"
pub record HeadRight (d : Drive) (v : List ℕ) : Type 0 where
  pub long : length v ≡ length_of (shape_of d)
  pub head : part 0 104 v ≡ head_of d
  pub node : node_in (shape_of d) v 1 ≡ d.node

-- "no bit at or above P is set and its epoch is the head's, or, while changing, the head's or one less", no "held bit that isn't
-- spent", and no "keycount [..] above the head's counter"
pub record Formed (d : Drive) (r : Record) : Type 0 where
  pub flakes : (f : ℕ) → d.p ≤ f → bit r.spent f ≡ false
  pub held : (f : ℕ) → bit r.held f ≡ true → bit r.spent f ≡ true
  pub epoch : (r.epoch ≡ d.epoch) ⊎ ((is_changing d.state ≡ true) × (r.epoch + 1 ≡ d.epoch))
  pub keycount : r.keycount ≤ d.counter

-- "Leaf, node L + n"
abbrev pub LeafRight : Drive → List ℕ → ℕ → Type 0
LeafRight d v n =
    node_in (shape_of d) v (leaves d.n + n) ≡ blake2s [] (leaf_message n (record_part (shape_of d) v n) (tags_part (shape_of d) v n))

-- "each node stands over the two nodes below it"
abbrev pub InnerRight : Drive → List ℕ → ℕ → Type 0
InnerRight d v i = node_in (shape_of d) v i ≡ blake2s [] (inner_message (node_in (shape_of d) v (2 * i)) (node_in (shape_of d) v (2 * i + 1)))

-- the node k steps above the leaf of nugget n; with as many steps as the tree is high it is node 1
abbrev pub steps_up : Shape → ℕ → ℕ → ℕ
steps_up s n k = (leaves s.n + n) / 2 ^ k

-- *Path*: the record of nugget n, its leaf, and each node above it up to node 1
pub record PathGood (d : Drive) (v : List ℕ) (n : ℕ) : Type 0 where
  pub formed : Formed d (record_of (shape_of d) v n)
  pub leaf : LeafRight d v n
  pub above : (k : ℕ) → 1 ≤ k → k ≤ height_of d.n → InnerRight d v (steps_up (shape_of d) n k)

-- "Bit f of a journal (lowest first) says that flake f is present."
abbrev pub SaysPresent : Drive → List ℕ → ℕ → ℕ → Type 0
SaysPresent d v n f = bit (record_of (shape_of d) v n).held f ≡ true

-- "Tag = Poly1305 under the tag key over the stored flake.", which in version 2 is named first: the tag of these bytes as flake f of nugget n
abbrev pub tag_for : Drive → List ℕ → ℕ → ℕ → List ℕ → List ℕ
tag_for d v n f stored = poly1305 (tag_key (lock_for d v n) f) (covered (lock_for d v n) f stored)

abbrev pub TagRight : Drive → List ℕ → ℕ → ℕ → Type 0
TagRight d v n f = part (tag_at (shape_of d) n f) 16 v ≡ tag_for d v n f (stored_in (shape_of d) v n f)

-- "all of J": the tag of each present flake of nugget n
abbrev pub TagsRight : Drive → List ℕ → ℕ → Type 0
TagsRight d v n = (f : ℕ) → f < d.p → SaysPresent d v n f → TagRight d v n f

-- *Whole*: all records and all nodes
pub record WholeGood (d : Drive) (v : List ℕ) : Type 0 where
  pub formed : (n : ℕ) → n < d.n → Formed d (record_of (shape_of d) v n)
  pub leaf : (n : ℕ) → n < d.n → LeafRight d v n
  pub spare : (i : ℕ) → leaves d.n + d.n ≤ i → i < 2 * leaves d.n → node_in (shape_of d) v i ≡ zeros 32
  pub inner : (i : ℕ) → 1 ≤ i → i < leaves d.n → InnerRight d v i
