use Rattle.drive.proofs.OpeningLaws.{opening_lent}
use Rattle.reports.specs.Report.{report_answer}
use Rattle.answers.specs.Numbers.{accepts}
use Rattle.answers.proofs.StageLaws.{handed}
use Rattle.base.proofs.PickLaws.{yes, no}
use mathlib.Core.Path.{refl, sym, ap, ◌∙◌}
use Rattle.reports.proofs.report_answer.Goals as goal

pub whole-requires : goal.whole-requires
whole-requires c = rw c.shape_of.ensures (opening_lent c.args.d c.args.vol.now (ap accepts (sym c.opening.ensures ∙ c.in_ok-opening.was)))

pub returns : goal.returns
unfolding report_answer
returns c = c.whole.ensures ∙ rw (c.shape_of.ensures, c.gauge_of.ensures) (sym (yes _ (ap accepts (sym c.opening.ensures ∙ c.in_ok-opening.was)) refl))

pub returns-in_err-opening : goal.returns-in_err-opening
unfolding report_answer
returns-in_err-opening c =
    handed _ _ _ c.from_residual.ensures.1 c.in_err-opening.was
    ∙ c.opening.ensures ∙ sym (no _ (ap accepts (sym c.opening.ensures ∙ c.in_err-opening.was)) refl)
