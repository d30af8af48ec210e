-- A volume that nobody touched: each test that could call it altered passes.
use mathlib.Core.Path.{◌≡◌, refl, sym, ap, ◌∙◌}
use mathlib.Core.Bool.{true, false}
use mathlib.Core.Logic.{◌⊎◌, inl, inr}
use mathlib.Core.List.{List}
use Prim.Native.Nat.{ℕ, zero, suc, ◌+◌, ◌<◌, ◌≤◌}
use native.Mathlib.Omega.{arith}
use lib.Bits.{bit_and}
use Rattle.base.proofs.PickLaws.{yes, no, told, both_left}
use Rattle.answers.specs.Answer as A
use Rattle.answers.specs.Numbers.{accepts}
use Rattle.layout.specs.declared.Shape.{Shape}
use Rattle.layout.specs.Shaped.{Shaped}
use Rattle.records.specs.Journal.{bit}
use Rattle.records.proofs.BitLaws.{bit_and_lem}
use Rattle.tree.specs.Path.{formed}
use Rattle.records.specs.Record.{record_of}
use Rattle.tree.specs.Whole.{whole_of}
use Rattle.tree.specs.Good.{AllGood}
use Rattle.tree.proofs.PathLaws.{good-path}
use Rattle.tree.proofs.WholeLaws.{good-whole}
use Rattle.drive.specs.declared.Drive.{Drive}
use Rattle.drive.specs.Drive.{shape_of, gauge_of}
use Rattle.drive.specs.Opening.{opening_of}
use Rattle.drive.proofs.OpeningLaws.{opening_lent}
use Rattle.nuggets.specs.declared.Nugget.{Nugget}
use Rattle.nuggets.specs.Nugget.{nugget_of}
use Rattle.nuggets.specs.Tests.{good_flake, good_flake_of, passes, flakes_up, flakes_tested, flakes_of, path_for, nugget_read}
use Rattle.reports.specs.Report.{report_answer}

-- drive and volume as the calls leave them: the head is the drive's, every node and every record as it has to be, the tag of each present flake right
pub record Untouched (d : Drive) (v : List ℕ) : Type 0 where
  pub opens : opening_of d v ≡ A.Accepted
  pub good : AllGood (shape_of d) v
  pub well : (n : ℕ) → n < d.n → formed (shape_of d) (gauge_of d) v n ≡ true
  pub tags : (n f : ℕ) → n < d.n → f < d.p → bit (record_of (shape_of d) v n).held f ≡ true → good_flake_of d v n f ≡ true

-- flakes that pass one by one
flakes-pass : (s : Shape) (v : List ℕ) (g : Nugget) (mask k f : ℕ) → ((i : ℕ) → f ≤ i → i < f + k → bit mask i ≡ true → good_flake s v g i ≡ true)
    → flakes_up s v g mask k f ≡ A.Accepted
unfolding flakes_up passes
flakes-pass s v g mask zero f h = refl
flakes-pass s v g mask (suc k) f h = yes _ (go (told (bit mask f))) (flakes-pass s v g mask k (suc f) (λ i a b. h i (omega arith) (omega arith)))
  where
    go : (bit mask f ≡ true) ⊎ (bit mask f ≡ false) → passes s v g mask f ≡ true
    go (inl e) = yes _ e (h f (omega arith) (omega arith) e)
    go (inr e) = no _ e refl

module _ (d : Drive) (v : List ℕ) (x : Untouched d v) where
  pub untouched_lent : Shaped (shape_of d) v
  untouched_lent = opening_lent d v (ap accepts x.opens)

  pub path_quiet : (n : ℕ) → n < d.n → path_for d v n ≡ A.Accepted
  path_quiet n h = good-path (shape_of d) (gauge_of d) v n untouched_lent h x.good (x.well n h)

  pub whole_quiet : whole_of (shape_of d) (gauge_of d) v ≡ A.Accepted
  whole_quiet = good-whole (shape_of d) (gauge_of d) v untouched_lent x.good x.well

  -- flakes of a set within those held
  pub flakes_quiet : (n mask : ℕ) → n < d.n → ((f : ℕ) → bit mask f ≡ true → bit (record_of (shape_of d) v n).held f ≡ true) → flakes_of d v n mask ≡ A.Accepted
  unfolding flakes_tested
  flakes_quiet n mask h within = flakes-pass (shape_of d) v (nugget_of d v n) mask d.p 0 (λ f a b e. x.tags n f h (omega arith) (within f e))

  pub nugget_read_lem : (n t : ℕ) → n < d.n → nugget_read d v n t ≡ A.Accepted
  unfolding nugget_read
  nugget_read_lem n t h =
      yes _ (ap accepts (path_quiet n h))
      (flakes_quiet n (bit_and (record_of (shape_of d) v n).held t) h (λ f e. both_left (bit (record_of (shape_of d) v n).held f) (bit t f) (sym (bit_and_lem (record_of (shape_of d) v n).held t f) ∙ e)))

  pub report-accepts : report_answer d v ≡ A.Accepted
  unfolding report_answer
  report-accepts = yes _ (ap accepts x.opens) whole_quiet
