use Rattle.ngt.specs.Calls.{span_image}
use Rattle.reports.specs.Stored.{stored_answer}
use Rattle.drive.specs.declared.Drive.{Drive}
use Rattle.ngt.proofs.CallLaws.{tells-by}
use mathlib.Core.Path.{◌∙◌, ap}
use Rattle.ngt.proofs.ngt_stored_flake.Goals as goal

pub returns : goal.returns
returns c =
    let a = c.args in
    record {
      tells = tells-by (c.stored_flake_answer-a.ensures ∙ ap (λ (d : Drive). stored_answer d a.vol.now a.nugget a.flake) c.opened-d.ensures) c.told.ensures.told c.told.ensures.shown;
      part = c.span_image.ensures ∙ ap (λ (d : Drive). span_image d a.vol.now a.nugget a.flake) c.opened-d.ensures;
    }
