use Rattle.ngt.proofs.LineLaws.{lined_by}
use Rattle.reports.specs.Report.{report_of}
use Rattle.sheets.specs.Sheet.{reported_line}
use Rattle.drive.specs.declared.Drive.{Drive}
use Rattle.ngt.proofs.lines.ngt_sheet_line.Goals as goal

pub returns : goal.returns
returns c =
    let v = c.args.vol.now in
    lined_by (λ (x : Drive). (report_of x v).answer) (λ (x : Drive). reported_line (report_of x v)) c.unpack.ensures c.sheet_line-t.ensures c.answer_image.ensures
