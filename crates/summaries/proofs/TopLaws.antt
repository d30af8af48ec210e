-- "A report from the top entry equals the full report after Item 1, given a volume that passes the whole test and the summary
-- that belongs to it."
use Rattle.std.proofs.Common.{◌≡◌, ℕ, ◌^◌, ◌<◌, true, false, eqb, ◌⊎◌, List, length, sym, refl, ◌∙◌, inl, inr, eq-eqb}
use Rattle.base.specs.Pick.{pick}
use Rattle.base.proofs.PickLaws.{yes, no, told}
use Rattle.answers.specs.Answer.{Answer}
use Rattle.answers.specs.Answer as A
use Rattle.answers.specs.Numbers.{accepts}
use Rattle.answers.specs.Stages.{and_then}
use Rattle.answers.proofs.StageLaws.{goes_on, stops, accepted_is}
use Rattle.layout.proofs.Limits.{limits, lent_small}
use Rattle.records.proofs.RuleLaws.{formed-held}
use Rattle.records.specs.Record.{record_of}
use Rattle.tree.specs.Whole.{whole_of}
use Rattle.tree.proofs.WholeLaws.{whole-formed}
use Rattle.drive.specs.declared.Drive.{Drive}
use Rattle.drive.specs.Drive.{shape_of, gauge_of}
use Rattle.drive.specs.Opening.{measure_of, opening_of}
use Rattle.drive.proofs.OpeningLaws.{opening_lent}
use Rattle.reports.specs.declared.told.Counts.{Counts}
use Rattle.reports.specs.Report.{report_answer, counted, refused, report_of}
use Rattle.reports.specs.Counts.{counts_in}
use Rattle.reports.proofs.CountLaws.{counts-below}
use Rattle.summaries.specs.Entries.{summary_length, entry_in}
use Rattle.summaries.specs.Calls.{top_answer, top_report, BelongsTo}
use Rattle.summaries.proofs.SumLaws.{top-counts}

-- the code's report, accepted and refused
module _ (d : Drive) (v b : List ℕ) where
  pub top-accepted : {a : Answer} {c : Counts} → a ≡ top_answer d v (length b) → accepts a ≡ true → c ≡ entry_in b 1 → counted a d.n c ≡ top_report d v b
  unfolding top_report
  top-accepted ea q ec = rw (ec, ea) (sym (yes _ (rw ea at q) refl))

  pub refused-top : {a : Answer} → a ≡ top_answer d v (length b) → accepts a ≡ false → refused a ≡ top_report d v b
  unfolding top_report
  refused-top ea q = rw ea (sym (no _ (rw ea at q) refl))

  -- with a buffer as long as it has to be the top report ends with the head
  pub top-opening : length b ≡ summary_length d.n → top_answer d v (length b) ≡ opening_of d v
  unfolding top_answer opening_of
  top-opening l = go (told (accepts (measure_of d v)))
    where
      go : (accepts (measure_of d v) ≡ true) ⊎ (accepts (measure_of d v) ≡ false)
          → and_then (measure_of d v) (pick (eqb (length b) (summary_length d.n)) (opening_of d v) A.Length) ≡ opening_of d v
      go (inl e) = goes_on _ _ e ∙ yes _ (eq-eqb (length b) (summary_length d.n) l) refl
      go (inr e) = stops _ _ e ∙ sym (stops _ _ e)

  pub top_is_report : whole_of (shape_of d) (gauge_of d) v ≡ A.Accepted → BelongsTo d v b → top_report d v b ≡ report_of d v
  unfolding top_report report_of report_answer
  top_is_report whole x = go (told (accepts (opening_of d v)))
    where
      answers : top_answer d v (length b) ≡ opening_of d v
      answers = top-opening x.long

      go : (accepts (opening_of d v) ≡ true) ⊎ (accepts (opening_of d v) ≡ false) → top_report d v b ≡ report_of d v
      go (inl e) =
          let lent = opening_lent d v e in
          let masks : (m : ℕ) → m < d.n → (record_of (shape_of d) v m).held < 2 ^ d.p = λ m l. formed-held d.p (gauge_of d) (record_of (shape_of d) v m) (whole-formed (shape_of d) (gauge_of d) v whole m l) in
          let counts : entry_in b 1 ≡ counts_in (shape_of d) d.p d.epoch v d.n = top-counts (shape_of d) d.epoch v (lent_small lent) b x
          ∙ counts-below (shape_of d) d.p d.epoch v d.n (limits (shape_of d) lent.limited).narrow masks in
          let accepted : opening_of d v ≡ A.Accepted = accepted_is (opening_of d v) e in
          rw (answers, accepted, whole, counts) refl
      go (inr e) = rw (answers, e, e) refl
