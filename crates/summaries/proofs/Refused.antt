-- "A refusal stores nothing": a refused building or renewing leaves the buffer as it came, a refused top report has no numbers.
use Rattle.std.proofs.Common.{◌≡◌, ℕ, true, false, List, length, sym, refl, ap, ◌∙◌, ne_eqb}
use Rattle.base.proofs.PickLaws.{no}
use Rattle.answers.specs.Answer as A
use Rattle.answers.specs.Numbers.{accepts}
use Rattle.answers.proofs.StageLaws.{goes_on, stops}
use Rattle.drive.specs.declared.Drive.{Drive}
use Rattle.drive.specs.Opening.{measure_of}
use Rattle.reports.specs.Report.{refused}
use Rattle.summaries.specs.Entries.{summary_length}
use Rattle.summaries.specs.Calls.{top_answer, top_report, build_answer, build_summary, renew_answer, renew_summary}
use Rattle.summaries.proofs.AnswerLaws.{build-leaves, renew-leaves}
use Rattle.summaries.proofs.TopLaws as Top

module _ (d : Drive) (v b : List ℕ) where
  pub build-refused : accepts (build_answer d v (length b)) ≡ false → build_summary d v b ≡ b
  build-refused h = sym (build-leaves d v b refl h)

  pub renew-refused : (n : ℕ) → accepts (renew_answer d v (length b) n) ≡ false → renew_summary d v b n ≡ b
  renew-refused n h = sym (renew-leaves d v b n refl h)

  pub top-refused : accepts (top_answer d v (length b)) ≡ false → top_report d v b ≡ refused (top_answer d v (length b))
  top-refused h = sym (Top.refused-top d v b refl h)

-- "2 if the buffer isn't 12 × (2L - 1) bytes, after the volume's own 2", before any test of the head
pub other_length : (d : Drive) (v : List ℕ) (len n : ℕ) → accepts (measure_of d v) ≡ true → (len ≡ summary_length d.n → ⊥)
    → (top_answer d v len ≡ A.Length) × (build_answer d v len ≡ A.Length) × (renew_answer d v len n ≡ A.Length)
unfolding top_answer build_answer renew_answer
other_length d v len n h ne =
    let e : top_answer d v len ≡ A.Length = goes_on _ _ h ∙ no _ (ne_eqb len (summary_length d.n) ne) refl in
    let off : accepts (top_answer d v len) ≡ false = ap accepts e in
    (e, stops _ _ off ∙ e, stops _ _ off ∙ e)
