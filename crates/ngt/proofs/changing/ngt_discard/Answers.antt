use Rattle.ngt.proofs.CallLaws.{changed_by_lem}
use Rattle.ngt.specs.Calls.{counter_rose}
use mathlib.Core.Path.{◌∙◌, ap}
use Rattle.drive.specs.declared.Drive.{Drive}
use Rattle.drive.specs.declared.Done.{Done}
use Rattle.changes.specs.Discard.{discard_done, discard_volume}
use Rattle.packed.specs.Image.{drive_in}
use Rattle.ngt.proofs.changing.ngt_discard.Goals as goal

pub returns : goal.returns
returns c =
    let a = c.args in
    let e = c.discard-done.ensures in
    let o = c.opened-d.ensures in
    let d = drive_in a.image.now in
    changed_by_lem (λ (z : Drive). discard_done z a.vol.now a.nugget a.first a.count) (λ (z : Done). counter_rose d z.drive) (λ (z : Drive). discard_volume z a.vol.now a.nugget a.first a.count)
    o e.0 e.1 (c.counter_rose.ensures ∙ ap (λ (z : Drive). counter_rose z c.discard-done.result.drive) o) c.hand_back.ensures.0 c.hand_back.ensures.1.told c.hand_back.ensures.1.shown
