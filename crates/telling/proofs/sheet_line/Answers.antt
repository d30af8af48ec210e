use Rattle.std.proofs.Common.{ap, arith}
use Rattle.reports.specs.declared.told.Report.{Report}
use Rattle.sheets.specs.Sheet.{reported_line}
use Rattle.line.proofs.PutLaws.{put_as}
use Rattle.telling.proofs.ToldLaws.{sheet_reach}
use Rattle.telling.proofs.sheet_line.Goals as goal

pub overflow_cast-result : goal.overflow_cast-result
overflow_cast-result c = omega (arith, sheet_reach c.report-r.result c.put_report.ensures)

pub returns : goal.returns
returns c = record {
  answers = ap (λ (z : Report). z.answer) c.report-r.ensures;
  put = put_as _ _ (ap reported_line c.report-r.ensures) c.put_report.ensures;
}
