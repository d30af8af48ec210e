use Rattle.packed.specs.Image.{drive_image}
use Rattle.drive.specs.declared.Done.{Done}
use Rattle.ngt.proofs.CallLaws.{tells-by}
use mathlib.Core.Path.{◌∙◌, ap}
use Rattle.ngt.proofs.ngt_mount.Goals as goal

pub returns : goal.returns
returns c =
    let e = c.mount-done.ensures in
    record {
      tells = tells-by (ap (λ (z : Done). z.answer) e) c.told.ensures.told c.told.ensures.shown;
      drive = c.pack.ensures ∙ ap (λ (z : Done). drive_image z.drive) e;
    }
