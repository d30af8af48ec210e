-- Document 01, *Whole*: "records ascending, then all other nodes from 2L - 1 down to 1. The first place is reported."
use Rattle.std.specs.Prelude.{Bool, List, ℕ, zero, suc, ◌+◌, ◌*◌, ◌^◌, ◌≤◌, max, ltb, leb, eqb}
use Rattle.base.specs.Pick.{pick, both}
use Rattle.layout.specs.Shape.{height_of, leaves}
use Rattle.layout.specs.declared.Shape.{Shape}
use Rattle.answers.specs.Answer.{Answer}
use Rattle.answers.specs.Answer as A
use Rattle.answers.specs.declared.Place.TheVariants as P
use Rattle.answers.specs.Numbers.{accepts}
use Rattle.records.specs.declared.Gauge.{Gauge}
use Rattle.nodes.specs.Made.{good_node}
use Rattle.tree.specs.Path.{good_record}

-- "records ascending": the k records from n on
unfoldable pub records_from : Shape → Gauge → List ℕ → ℕ → ℕ → Answer
records_from s gauge v zero n = A.Accepted
records_from s gauge v (suc k) n =
    pick (good_record s gauge v n) (records_from s gauge v k (suc n)) (A.Altered (P.Record n))

-- "all other nodes": a nugget's leaf was tested with its record
unfoldable pub nugget_leaf : Shape → ℕ → Bool
nugget_leaf s i = both (leb (leaves s.n) i) (ltb i (leaves s.n + s.n))

-- node i if it is bad, else 0
unfoldable pub bad_of : Shape → List ℕ → ℕ → ℕ
bad_of s v i = pick (nugget_leaf s i) 0 (pick (good_node s v i) 0 i)

-- "each node stands over the two nodes below it": the greatest bad node of the subtree of height h under node i, 0 if there is none
unfoldable pub worst : Shape → List ℕ → ℕ → ℕ → ℕ
worst s v zero i = bad_of s v i
worst s v (suc h) i = max (bad_of s v i) (max (worst s v h (2 * i)) (worst s v h (2 * i + 1)))

-- a place, or none
unfoldable pub at_node : ℕ → Answer
at_node i = pick (eqb i 0) A.Accepted (A.Altered (P.Node i))

unfoldable pub whole_of : Shape → Gauge → List ℕ → Answer
whole_of s gauge v =
    let a = records_from s gauge v s.n 0 in
    pick (accepts a) (at_node (worst s v (height_of s.n) 1)) a

-- node i has height h: all that is h steps below it is a leaf
pub record HasHeight (s : Shape) (h i : ℕ) : Type 0 where
  pub first : leaves s.n ≤ i * 2 ^ h
  pub last : (i + 1) * 2 ^ h ≤ 2 * leaves s.n
