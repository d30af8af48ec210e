use Rattle.ngt.proofs.CallLaws.{tells-by}
use Rattle.summaries.specs.Calls.{build_answer, build_summary}
use lib.ListN.{length}
use Rattle.drive.specs.declared.Drive.{Drive}
use mathlib.Core.Path.{◌∙◌, ap}
use Rattle.ngt.proofs.summary.ngt_summary_build.Goals as goal

pub returns : goal.returns
returns c =
    let a = c.args in
    record {
      tells = tells-by (c.build-a.ensures.0 ∙ ap (λ (d : Drive). build_answer d a.vol.now (length a.sum.now)) c.opened.ensures) c.told.ensures.told c.told.ensures.shown;
      bytes = c.build-a.ensures.1 ∙ ap (λ (d : Drive). build_summary d a.vol.now a.sum.now) c.opened.ensures;
    }
