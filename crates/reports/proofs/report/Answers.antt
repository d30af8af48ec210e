use Rattle.reports.proofs.ReportLaws.{told_is, refused_is}
use Rattle.reports.proofs.AnswerLaws.{report_is}
use Rattle.reports.specs.Counts.{counts_in}
use Rattle.answers.specs.Numbers.{accepts}
use Rattle.layout.specs.declared.Shape.{Shape}
use mathlib.Core.Path.{sym, ap, ◌∙◌}
use Rattle.reports.proofs.report.Goals as goal

pub counts_in-requires : goal.counts_in-requires
counts_in-requires c =
    rw c.shape_of.ensures (report_is c.args.d c.args.vol.now (ap accepts (sym c.report_answer.ensures ∙ c.in-Ok.is))).lent

pub returns-in-Ok : goal.returns-in-Ok
returns-in-Ok c =
    let k = c.args in
    let told = sym c.report_answer.ensures ∙ c.in-Ok.is in
    c.counted.ensures
    ∙ told_is k.d k.vol.now (ap accepts told) (sym told)
    (c.counts_in.ensures ∙ ap (λ (x : Shape). counts_in x 64 k.d.epoch k.vol.now x.n) c.shape_of.ensures)

pub returns-in-Err : goal.returns-in-Err
returns-in-Err c =
    let told = sym c.report_answer.ensures ∙ c.in-Err.is in
    c.refused.ensures ∙ refused_is c.args.d c.args.vol.now (ap accepts told) (sym told)
