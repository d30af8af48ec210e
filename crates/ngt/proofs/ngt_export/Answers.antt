use Rattle.ngt.proofs.CallLaws.{tells-by}
use Rattle.handing.specs.Handing.{export_answer, export_buffer}
use lib.ListN.{length}
use Rattle.drive.specs.declared.Drive.{Drive}
use mathlib.Core.Path.{◌∙◌, ap}
use Rattle.ngt.proofs.ngt_export.Goals as goal

pub returns : goal.returns
returns c =
    let a = c.args in
    record {
      tells = tells-by (c.export-a.ensures.0 ∙ ap (λ (d : Drive). export_answer d a.vol.now a.key.now a.tweak.now (length a.out.now)) c.opened.ensures) c.told.ensures.told c.told.ensures.shown;
      bytes = c.export-a.ensures.1 ∙ ap (λ (d : Drive). export_buffer d a.vol.now a.key.now a.tweak.now a.out.now) c.opened.ensures;
    }
