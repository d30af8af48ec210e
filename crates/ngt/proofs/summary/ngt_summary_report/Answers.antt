use Rattle.ngt.specs.Summary.{tally_image}
use Rattle.drive.specs.declared.Drive.{Drive}
use Rattle.summaries.specs.Calls.{top_report}
use Rattle.reports.specs.declared.told.Report.{Report}
use Rattle.ngt.proofs.CallLaws.{tells-by, tally_row}
use mathlib.Core.Path.{◌∙◌, ap}
use Rattle.ngt.proofs.summary.ngt_summary_report.Goals as goal

pub returns : goal.returns
returns c =
    let e = c.top-r.ensures ∙ ap (λ (d : Drive). top_report d c.args.vol.now c.args.sum.now) c.opened.ensures in
    record {
      tells = tells-by (ap (λ (z : Report). z.answer) e) c.told.ensures.told c.told.ensures.shown;
      numbers = c.row.ensures ∙ tally_row c.top-r.result ∙ ap tally_image e;
    }
