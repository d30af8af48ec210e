-- A message absorbed in three pieces, as `leaf` and `inner` do it.
use mathlib.Core.Path.{◌≡◌, refl, ap, ◌∙◌}
use mathlib.Core.List.{List, [], ◌∷◌, ◌++◌}
use mathlib.Core.Bool.{Bool}
use Prim.Native.Nat.{ℕ, ◌+◌, ◌-◌, ◌*◌}
use lib.ListN.{set, replicate}
use lib.Seq.{sets}
use Rattle.base.specs.Lists.{part, same}
use Rattle.words.specs.Le.{le}
use Rattle.layout.specs.Shape.{width_of}
use Rattle.layout.specs.Parts.{record_at, tag_at, node_at}
use Rattle.layout.specs.declared.Shape.{Shape}
use Rattle.blake2s.specs.Hash.{blake2s}
use Rattle.blake2s.specs.Stream.{started, absorbed, finished}
use Rattle.blake2s.specs.declared.State.{State}
use Rattle.blake2s.proofs.FaceLaws.{absorbed-join, absorbed-hash}
use Rattle.nodes.specs.Nodes.{node_in, leaf_of, inner_of}
use Rattle.nodes.specs.Made.{made_of, good_node, store_node}
use Rattle.base.proofs.PartLaws.{part_to}

pieces : (x y z : List ℕ) → finished (absorbed (absorbed (absorbed started x) y) z) ≡ blake2s [] (x ++ (y ++ z))
pieces x y z =
    ap finished (absorbed-join (absorbed started x) y z ∙ absorbed-join started x (y ++ z)) ∙ absorbed-hash (x ++ (y ++ z))

pub letter_nugget : (n : ℕ) → sets (set (replicate 5 0) 0 0x4C) 1 (le 4 n) ≡ 0x4C ∷ le 4 n
unfolding le
letter_nugget n = refl

-- three pieces of which the second and third stand in the volume
pub hashed : (v x : List ℕ) (at k to m : ℕ) {a b c d : State} {r : List ℕ} → a ≡ started → b ≡ absorbed a x → c ≡ absorbed b (part at (at + k - at) v)
    → d ≡ absorbed c (part to (to + m - to) v) → r ≡ finished d → r ≡ blake2s [] (x ++ (part at k v ++ part to m v))
hashed v x at k to m ea eb ec ed er =
    rw (er, ed, ec, eb, ea, part_to at k v, part_to to m v) (pieces x (part at k v) (part to m v))

pub leaf_is : (s : Shape) (v x : List ℕ) (n : ℕ) {at k to : ℕ} {r : List ℕ} → x ≡ 0x4C ∷ le 4 n → at ≡ record_at s n → k ≡ width_of s → to ≡ tag_at s n 0
    → r ≡ blake2s [] (x ++ (part at k v ++ part to (16 * s.p) v)) → r ≡ leaf_of s v n
unfolding leaf_of
leaf_is s v x n ex ea ek et er = rw (er, ex, ea, ek, et)

pub inner_is : (s : Shape) (v : List ℕ) (i j : ℕ) {at to : ℕ} {r : List ℕ} → at ≡ node_at s i → to ≡ node_at s j
    → r ≡ blake2s [] ((0x54 ∷ []) ++ (part at 32 v ++ part to 32 v)) → r ≡ inner_of (node_in s v i) (node_in s v j)
unfolding inner_of
inner_is s v i j ea et er = rw (er, ea, et)

-- the test, and the store, of a node that was made
pub tested : (s : Shape) (v : List ℕ) (i at : ℕ) {m : List ℕ} {r : Bool} → r ≡ same (part at (at + 32 - at) v) m → at ≡ node_at s i → m ≡ made_of s v i
    → r ≡ good_node s v i
unfolding good_node
tested s v i at er ea em = rw (er, part_to at 32 v, ea, em)

pub stored : (s : Shape) (v : List ℕ) (i : ℕ) {at : ℕ} {m w : List ℕ} → w ≡ sets v at m → at ≡ node_at s i → m ≡ made_of s v i → w ≡ store_node s i v
unfolding store_node
stored s v i ew ea em = rw (ew, ea, em)
