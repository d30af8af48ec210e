-- What acceptance says of the drive, the volume and the flake.
use mathlib.Core.Path.{◌≡◌, refl, ap, ◌∙◌}
use mathlib.Core.Bool.{true}
use mathlib.Core.List.{List}
use Prim.Native.Nat.{ℕ, ◌+◌, ◌-◌, ◌^◌, ◌<◌, ◌≤◌}
use native.Mathlib.Nat.{add-sub_cancel_left}
use native.Mathlib.Omega.{arith}
use Rattle.layout.specs.declared.Shape.{Shape}
use Rattle.layout.specs.Shape.{within}
use Rattle.layout.specs.Parts.{flake_at}
use Rattle.layout.proofs.Limits.{inside}
use Rattle.layout.proofs.Places.{flake-inside}
use lib.Dec.{ltb}
use lib.ListN.{take, drop, length}
use borrow.Author.Tests.{ltb-true}
use Rattle.base.specs.Pick.{pick}
use Rattle.base.specs.Lists.{part}
use Rattle.base.proofs.PickLaws.{both_left, both_right}
use Rattle.answers.specs.Answer as A
use Rattle.answers.specs.Numbers.{accepts}
use Rattle.answers.specs.Stages.{and_then}
use Rattle.records.proofs.RuleLaws.{formed-held}
use Rattle.tree.specs.Whole.{whole_of}
use Rattle.tree.proofs.WholeLaws.{whole-formed}
use Rattle.drive.specs.declared.Drive.{Drive}
use Rattle.drive.specs.Drive.{shape_of, gauge_of}
use Rattle.drive.specs.Opening.{measure_of, opening_of}
use Rattle.drive.proofs.OpeningLaws.{measure_lent, opening_lent}
use Rattle.records.specs.Record.{record_of}
use Rattle.reports.specs.Report.{report_answer}
use Rattle.reports.specs.Stored.{is_flake, stored_answer}
use Rattle.answers.proofs.StageLaws.{both_stages, passed, accepted_is}
use Rattle.layout.specs.Shaped.{Shaped}

-- an accepted report
pub record Told (d : Drive) (v : List ℕ) : Type 0 where
  pub lent : Shaped (shape_of d) v
  pub masks : (m : ℕ) → m < d.n → (record_of (shape_of d) v m).held < 2 ^ d.p

pub report_is : (d : Drive) (v : List ℕ) → accepts (report_answer d v) ≡ true → Told d v
unfolding report_answer and_then
report_is d v h =
    let w = whole_of (shape_of d) (gauge_of d) v in
    let q = both_stages (opening_of d v) w h in
    let whole : w ≡ A.Accepted = accepted_is w q.1 in
    record {
      lent = opening_lent d v q.0;
      masks = λ m l. formed-held d.p (gauge_of d) (record_of (shape_of d) v m) (whole-formed (shape_of d) (gauge_of d) v whole m l);
    }

-- a stored flake that is shown
pub record Shown (d : Drive) (v : List ℕ) (n f : ℕ) : Type 0 where
  pub lent : Shaped (shape_of d) v
  pub nugget : n < d.n
  pub flake : f < d.p

pub stored_is : (d : Drive) (v : List ℕ) (n f : ℕ) → accepts (stored_answer d v n f) ≡ true → Shown d v n f
unfolding stored_answer is_flake
stored_is d v n f h =
    let q = both_stages (measure_of d v) (pick (is_flake d n f) A.Accepted A.PastEnd) h in
    let e = (passed (is_flake d n f) A.Accepted A.PastEnd refl q.1).0 in
    record {
      lent = measure_lent d v q.0;
      nugget = ltb-true n d.n (both_left _ (ltb f d.p) e);
      flake = ltb-true f d.p (both_right (ltb n d.n) _ e);
    }

-- and where it stands
pub record Stands (d : Drive) (v : List ℕ) (n f at : ℕ) : Type 0 where
  pub place : at ≡ flake_at (shape_of d) n f
  pub room : at + d.f ≤ length v

pub stored_place : (d : Drive) (v : List ℕ) (n f : ℕ) {s : Shape} {at : ℕ} → accepts (stored_answer d v n f) ≡ true → s ≡ shape_of d → at ≡ within s (flake_at s n f) → Stands d v n f at
stored_place d v n f {s} {at} h es ea =
    let is = stored_is d v n f h in
    let place : at ≡ flake_at (shape_of d) n f = ea ∙ ap (λ (x : Shape). within x (flake_at x n f)) es ∙ inside (shape_of d) is.lent.limited in
    record { place = place; room = omega (arith, place, flake-inside (shape_of d) n f is.nugget is.flake, is.lent.size) }

-- the part that the code shows is the flake's
pub stored-part : (v : List ℕ) (at k size : ℕ) → at ≡ k → take (at + size - at) (drop at v) ≡ part k size v
stored-part v at k size e = rw (e, add-sub_cancel_left k size)
