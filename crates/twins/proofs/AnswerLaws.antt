-- What an accepted call tells of both volumes.
use mathlib.Core.Path.{◌≡◌, refl}
use mathlib.Core.Bool.{true}
use mathlib.Core.List.{List}
use Prim.Native.Nat.{ℕ, ◌<◌}
use lib.Dec.{ltb}
use borrow.Author.Tests.{ltb-true}
use Rattle.base.specs.Lists.{same}
use Rattle.base.proofs.FoldLaws.{same_true}
use Rattle.layout.specs.Shaped.{Shaped}
use Rattle.answers.specs.Answer as A
use Rattle.answers.specs.declared.Place.TheVariants as P
use Rattle.answers.specs.Numbers.{accepts}
use Rattle.answers.proofs.StageLaws.{both_stages, passed, accepted_is}
use Rattle.nodes.specs.Nodes.{node_in}
use Rattle.tree.specs.Path.{path_of}
use Rattle.drive.specs.declared.Drive.{Drive}
use Rattle.drive.specs.Drive.{shape_of, gauge_of}
use Rattle.drive.specs.Opening.{measure_of}
use Rattle.drive.proofs.OpeningLaws.{measure_lent}
use Rattle.twins.specs.Twins.{path_to, sizes_of, twins_answer}

-- tests 1, 2 and 8
pub record Sized (d : Drive) (v w : List ℕ) (n : ℕ) : Type 0 where
  pub first : Shaped (shape_of d) v
  pub second : Shaped (shape_of d) w
  pub there : n < d.n

pub sizes-told : (d : Drive) (v w : List ℕ) (n : ℕ) → accepts (sizes_of d v w n) ≡ true → Sized d v w n
unfolding sizes_of
sizes-told d v w n e =
    let one = both_stages (measure_of d v) _ e in
    let two = both_stages (measure_of d w) _ one.1 in
    record {
      first = measure_lent d v one.0;
      second = measure_lent d w two.0;
      there = ltb-true n d.n (passed (ltb n d.n) A.Accepted A.PastEnd refl two.1).0;
    }

-- a path that ends with the drive's node 1
pub record Led (d : Drive) (v : List ℕ) (n : ℕ) : Type 0 where
  pub path : path_of (shape_of d) (gauge_of d) v n ≡ A.Accepted
  pub top : node_in (shape_of d) v 1 ≡ d.node

path-told : (d : Drive) (v : List ℕ) (n : ℕ) → accepts (path_to d v n) ≡ true → Led d v n
unfolding path_to
path-told d v n e =
    let q = both_stages (path_of (shape_of d) (gauge_of d) v n) _ e in
    record {
      path = accepted_is _ q.0;
      top = same_true _ _ (passed (same (node_in (shape_of d) v 1) d.node) A.Accepted (A.Altered (P.Node 1)) refl q.1).0;
    }

-- the whole
pub record Judged (d : Drive) (v w : List ℕ) (n : ℕ) : Type 0 where
  pub sized : Sized d v w n
  pub first : Led d v n
  pub second : Led d w n

pub judged : (d : Drive) (v w : List ℕ) (n : ℕ) → accepts (twins_answer d v w n) ≡ true → Judged d v w n
unfolding twins_answer
judged d v w n e =
    let one = both_stages (sizes_of d v w n) _ e in
    let two = both_stages (path_to d v n) (path_to d w n) one.1 in
    record { sized = sizes-told d v w n one.0; first = path-told d v n two.0; second = path-told d w n two.1 }
