use Rattle.ngt.specs.Summary.{tally_image}
use Rattle.drive.specs.declared.Drive.{Drive}
use Rattle.reports.specs.Report.{report_of}
use Rattle.reports.specs.declared.told.Report.{Report}
use Rattle.ngt.proofs.CallLaws.{tells-by, tally_row}
use mathlib.Core.Path.{◌∙◌, ap}
use Rattle.ngt.proofs.summary.ngt_tally.Goals as goal

pub returns : goal.returns
returns c =
    let e = c.report-r.ensures ∙ ap (λ (d : Drive). report_of d c.args.vol.now) c.opened.ensures in
    record {
      tells = tells-by (ap (λ (z : Report). z.answer) e) c.told.ensures.told c.told.ensures.shown;
      numbers = c.row.ensures ∙ tally_row c.report-r.result ∙ ap tally_image e;
    }
