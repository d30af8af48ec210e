-- What an accepted path says, and when a path is accepted.
use mathlib.Core.Path.{◌≡◌, refl, ap, ◌∙◌}
use mathlib.Core.Bool.{Bool, true, false}
use mathlib.Core.Logic.{◌⊎◌, inl, inr}
use mathlib.Core.List.{List}
use Prim.Native.Nat.{ℕ, zero, suc, ◌+◌, ◌*◌, ◌/◌, ◌<◌}
use native.Mathlib.Omega.{arith}
use lib.Dec.{eqb}
use borrow.Author.Tests.{eqb-true}
use Rattle.base.specs.Pick.{pick}
use Rattle.base.proofs.PickLaws.{yes, both_left, both_right, both-on, clash, either-told}
use Rattle.layout.specs.Shape.{height_of, leaves}
use Rattle.layout.specs.declared.Shape.{Shape}
use Rattle.answers.specs.Answer.{Answer}
use Rattle.answers.specs.Answer as A
use Rattle.answers.specs.declared.Place.{Place}
use Rattle.answers.specs.declared.Place.TheVariants as P
use Rattle.answers.specs.Numbers.{number_of}
use Rattle.records.specs.declared.Gauge.{Gauge}
use Rattle.nodes.specs.Nodes.{node_in, leaf_of, inner_of}
use Rattle.nodes.specs.Made.{good_node}
use Rattle.nodes.proofs.MadeLaws.{made-leaf, made-inner, good_true, true_good}
use Rattle.tree.specs.Path.{formed, good_record, climbed, path_of, Rises}
use Rattle.tree.specs.Good.{AllGood, upward}
use Rattle.tree.proofs.Heights.{rises-some, rises-half, rises-leaf}
use Rattle.heaps.proofs.PathLaws.{upward-le}
use Rattle.layout.specs.Shaped.{Shaped}
use Rattle.layout.proofs.Limits.{lent_small}

-- an altered place is no acceptance
pub altered : (p : Place) → A.Altered p ≡ A.Accepted → ⊥
altered p e = let z : ◌≡◌ {A = ℕ} 7 0 = ap number_of e in omega arith

-- a choice between an answer and an altered place that is accepted
pub accepted-pick : (b : Bool) (a : Answer) (p : Place) → pick b a (A.Altered p) ≡ A.Accepted → (b ≡ true) × (a ≡ A.Accepted)
accepted-pick true a p e = (refl, e)
accepted-pick false a p e = absurd (altered p e)

-- "leaf n belongs to node 1": record, leaf, and each node above it made of its two
pub record Belongs (s : Shape) (gauge : Gauge) (v : List ℕ) (n : ℕ) : Type 0 where
  pub well_formed_lem : formed s gauge v n ≡ true
  pub leaf : node_in s v (leaves s.n + n) ≡ leaf_of s v n
  pub above : (i : ℕ) → upward (height_of s.n) ((leaves s.n + n) / 2) i ≡ true → node_in s v i ≡ inner_of (node_in s v (2 * i)) (node_in s v (2 * i + 1))

climbed-all : (s : Shape) (v : List ℕ) (k j : ℕ) → climbed s v k j ≡ A.Accepted → (i : ℕ) → upward k j i ≡ true → good_node s v i ≡ true
unfolding climbed upward
climbed-all s v zero j e i u = absurd (clash u refl)
climbed-all s v (suc k) j e i u =
    let q = accepted-pick (good_node s v j) (climbed s v k (j / 2)) (P.Node j) e in
    go q.0 (either-told (eqb j i) (upward k (j / 2) i) u) (λ w. climbed-all s v k (j / 2) q.1 i w)
  where
    go : good_node s v j ≡ true → (eqb j i ≡ true) ⊎ (upward k (j / 2) i ≡ true) → (upward k (j / 2) i ≡ true → good_node s v i ≡ true) → good_node s v i ≡ true
    go g (inl w) again = rw (eqb-true j i w) at g
    go g (inr w) again = again w

-- a path that passes has a well-formed record, whatever the volume
pub path-formed : (s : Shape) (gauge : Gauge) (v : List ℕ) (n : ℕ) → path_of s gauge v n ≡ A.Accepted → formed s gauge v n ≡ true
unfolding path_of good_record
path-formed s gauge v n e =
    both_left _ _ (accepted-pick (good_record s gauge v n) (climbed s v (height_of s.n) ((leaves s.n + n) / 2)) (P.Record n) e).0

pub path_belongs : (s : Shape) (gauge : Gauge) (v : List ℕ) (n : ℕ) → Shaped s v → n < s.n → path_of s gauge v n ≡ A.Accepted
    → Belongs s gauge v n
unfolding path_of good_record
path_belongs s gauge v n l h e =
    let small = lent_small l in
    let q = accepted-pick (good_record s gauge v n) (climbed s v (height_of s.n) ((leaves s.n + n) / 2)) (P.Record n) e in
    record {
      well_formed_lem = path-formed s gauge v n e;
      leaf = good_true s v (leaves s.n + n) (both_right (formed s gauge v n) _ q.0) ∙ made-leaf s v n h;
      above =
          λ i u.
          good_true s v i (climbed-all s v (height_of s.n) ((leaves s.n + n) / 2) q.1 i u)
          ∙ made-inner s v i (omega (arith, upward-le (height_of s.n) ((leaves s.n + n) / 2) i u, small.enough_leaves));
    }

climbed-good : (s : Shape) (v : List ℕ) → AllGood s v → (k j : ℕ) → Rises k j → j < 2 * leaves s.n → climbed s v k j ≡ A.Accepted
unfolding climbed
climbed-good s v g zero j r h = refl
climbed-good s v g (suc k) j r h =
    yes _ (true_good s v j (g j (rises-some (suc k) j r (omega arith)) h)) (climbed-good s v g k (j / 2) (rises-half k j r) (omega arith))

-- in a good tree every path over a well formed record is accepted
pub good-path : (s : Shape) (gauge : Gauge) (v : List ℕ) (n : ℕ) → Shaped s v → n < s.n → AllGood s v → formed s gauge v n ≡ true
    → path_of s gauge v n ≡ A.Accepted
unfolding path_of good_record
good-path s gauge v n l h g f =
    let small = lent_small l in
    yes _ (both-on f (true_good s v (leaves s.n + n) (g (leaves s.n + n) (omega (arith, small.some_leaves)) (omega (arith, small.enough_leaves)))))
    (climbed-good s v g (height_of s.n) ((leaves s.n + n) / 2) (rises-half (height_of s.n) (leaves s.n + n) (rises-leaf s n small h))
    (omega (arith, small.enough_leaves)))
