-- Trees that are as they have to be, whole or but for the paths of some nuggets.
use Rattle.std.specs.Prelude.{◌≡◌, Bool, false, List, ℕ, ◌*◌, ◌<◌, ◌≤◌}
use Rattle.layout.specs.Shape.{height_of, leaves}
use Rattle.layout.specs.declared.Shape.{Shape}
use Rattle.nodes.specs.Nodes.{node_in}
use Rattle.nodes.specs.Alike.{Alike}
use Rattle.nodes.specs.Made.{Good}
use Rattle.heaps.specs.Paths as Paths
unfoldable pub use Rattle.heaps.specs.Paths.{upward}

-- "nodes 1 to 2L - 1", each what it has to be
abbrev pub AllGood : Shape → List ℕ → Type 0
AllGood s v = (i : ℕ) → 1 ≤ i → i < 2 * leaves s.n → Good s v i

-- node i is the leaf of nugget n, or stands above it
abbrev pub on_path : Shape → ℕ → ℕ → Bool
on_path s n i = Paths.on_path (height_of s.n) n i

-- every node is good that is on no path of a nugget in D
abbrev pub GoodBut : Shape → (ℕ → Type 0) → List ℕ → Type 0
GoodBut s D v = (i : ℕ) → 1 ≤ i → i < 2 * leaves s.n → ((n : ℕ) → n < s.n → D n → on_path s n i ≡ false) → Good s v i

-- the volumes differ in no node, and in the record and tags of nuggets in E alone; the head and the flakes aren't looked at
pub record Beside (s : Shape) (E : ℕ → Type 0) (v w : List ℕ) : Type 0 where
  pub nodes : (i : ℕ) → 1 ≤ i → i < 2 * leaves s.n → node_in s v i ≡ node_in s w i
  pub others : (m : ℕ) → m < s.n → (E m → ⊥) → Alike s v w m
