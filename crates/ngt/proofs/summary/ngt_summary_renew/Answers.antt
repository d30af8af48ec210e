use Rattle.ngt.proofs.CallLaws.{tells-by}
use Rattle.summaries.specs.Calls.{renew_answer, renew_summary}
use lib.ListN.{length}
use Rattle.drive.specs.declared.Drive.{Drive}
use mathlib.Core.Path.{◌∙◌, ap}
use Rattle.ngt.proofs.summary.ngt_summary_renew.Goals as goal

pub returns : goal.returns
returns c =
    let a = c.args in
    record {
      tells = tells-by (c.renew-a.ensures.0 ∙ ap (λ (d : Drive). renew_answer d a.vol.now (length a.sum.now) a.nugget) c.opened.ensures) c.told.ensures.told c.told.ensures.shown;
      bytes = c.renew-a.ensures.1 ∙ ap (λ (d : Drive). renew_summary d a.vol.now a.sum.now a.nugget) c.opened.ensures;
    }
