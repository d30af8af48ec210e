-- The report field by field, and a sweep that raises its moved by one.
use mathlib.Core.Path.{◌≡◌, refl, sym, ap, ◌∙◌}
use mathlib.Core.Bool.{false}
use Prim.Native.Nat.{ℕ, zero, suc, ◌+◌}
use mathlib.Core.List.{List}
use lib.Dec.{eqb, ltb}
use borrow.Author.Tests.{eq-eqb}
use Rattle.answers.specs.Answer as A
use Rattle.answers.specs.Numbers.{accepts}
use Rattle.answers.proofs.StageLaws.{passed, spared}
use Rattle.base.specs.Pick.{pick}
use Rattle.records.specs.Journal.{many, flake_count}
use Rattle.layout.specs.declared.Shape.{Shape}
use Rattle.records.specs.Record.{record_of}
use Rattle.drive.specs.Drive.{shape_of}
use Rattle.drive.specs.declared.Drive.{Drive}
use Rattle.reports.proofs.Exact.{done_in, report_exact}
use Rattle.ledger.specs.Totals.{sum}
use Rattle.changes.specs.Change.{advanced}
use Rattle.history.specs.World.{World, sweep}
use Rattle.history.specs.Step.{answer_to, step}
use Rattle.history.specs.History.{history}
use Rattle.history.specs.Answers.{changing, has_moved, TellsCounts, report_on, ReportTells, SweepMoves}
use Rattle.history.proofs.Counts.{many-one}
use Rattle.history.proofs.Quiet.{report-accepts}
use Rattle.history.proofs.Sound.{Sound}
use Rattle.history.proofs.Steps.{step_sound, sound}
use Rattle.history.proofs.Table.{exactly}
use Rattle.history.proofs.Demands.{flakes-sum}
use Rattle.history.proofs.Moves.{sweep-tells, sweep-leaves, swept_own, swept_other}

-- the report's count of flakes done is the ledger's sum
done-sum : (s : Shape) (p e : ℕ) (v : List ℕ) (n : ℕ) → sum n (λ i. pick (eqb (record_of s v i).epoch e) (flake_count p (record_of s v i).held) 0) ≡ done_in s p e v n
unfolding done_in sum
done-sum s p e v zero = refl
done-sum s p e v (suc n) = rw (done-sum s p e v n)

tells : (w : World) → Sound w → TellsCounts w (report_on w)
tells w x =
    let t = report_exact w.drive w.vol (report-accepts w.drive w.vol x.untouched) in
    record {
      accepted = t.answer_told;
      nuggets = t.n_told;
      moved = t.moved_told;
      left = t.left_told;
      flakes = t.flakes_told ∙ sym (flakes-sum (shape_of w.drive) w.drive.p w.vol w.drive.n);
      done = t.done_told ∙ sym (done-sum (shape_of w.drive) w.drive.p w.drive.epoch w.vol w.drive.n);
      share = t.share_told;
      empty = t.empty_told;
    }

pub report-tells : ReportTells
report-tells start calls = tells (history start calls) (sound start calls)

module _ (w : World) (x : Sound w) (n : ℕ) (e : answer_to w (sweep n) ≡ A.Accepted) where
  -- it wasn't moved
  still : has_moved w n ≡ false
  still =
      let t₁ = passed (changing w) _ A.State refl (ap accepts (sym (exactly w x (sweep n)) ∙ e)) in
      let t₂ = passed (ltb n w.drive.n) _ A.PastEnd refl t₁.1 in
      (spared (has_moved w n) A.Moved _ refl t₂.1).0

  epoch_kept_lem : (step w (sweep n)).drive.epoch ≡ w.drive.epoch
  unfolding advanced
  epoch_kept_lem = ap (λ (d : Drive). d.epoch) (sweep-leaves w x n e)

  n_kept : (step w (sweep n)).drive.n ≡ w.drive.n
  unfolding advanced
  n_kept = ap (λ (d : Drive). d.n) (sweep-leaves w x n e)

  moves : many w.drive.n (has_moved (step w (sweep n))) ≡ many w.drive.n (has_moved w) + 1
  moves =
      many-one w.drive.n (has_moved w) (has_moved (step w (sweep n))) n (sweep-tells w x n e).inside still
      (eq-eqb (record_of (shape_of (step w (sweep n)).drive) (step w (sweep n)).vol n).epoch (step w (sweep n)).drive.epoch (swept_own w x n e ∙ sym epoch_kept_lem))
      (λ i a b. rw (swept_other w x n e i a b, epoch_kept_lem) refl)

  sweep_raises : (report_on (step w (sweep n))).moved ≡ (report_on w).moved + 1
  sweep_raises =
      (tells (step w (sweep n)) (step_sound w (sweep n) x)).moved
      ∙ ap (λ (k : ℕ). many k (has_moved (step w (sweep n)))) n_kept
      ∙ moves
      ∙ ap (λ (k : ℕ). k + 1) (sym (tells w x).moved)

pub sweep_moves : SweepMoves
sweep_moves start calls n e = sweep_raises (history start calls) (sound start calls) n e
