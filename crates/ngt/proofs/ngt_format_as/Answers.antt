use Rattle.packed.specs.Image.{drive_image}
use Rattle.drive.specs.declared.Done.{Done}
use Rattle.ngt.proofs.CallLaws.{tells-by}
use mathlib.Core.Path.{◌∙◌, ap}
use Rattle.ngt.proofs.ngt_format_as.Goals as goal

pub returns : goal.returns
returns c =
    let e = c.format-done.ensures.0 in
    record {
      tells = tells-by (ap (λ (z : Done). z.answer) e) c.told.ensures.told c.told.ensures.shown;
      volume = c.format-done.ensures.1;
      drive = c.pack.ensures ∙ ap (λ (z : Done). drive_image z.drive) e;
    }
