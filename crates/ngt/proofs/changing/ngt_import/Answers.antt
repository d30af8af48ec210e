use Rattle.ngt.proofs.CallLaws.{changed_by_lem}
use Rattle.answers.specs.Numbers.{accepts}
use Rattle.drive.specs.declared.Drive.{Drive}
use Rattle.drive.specs.declared.Done.{Done}
use Rattle.handing.specs.Handing.{import_done, import_volume}
use Rattle.ngt.proofs.changing.ngt_import.Goals as goal

pub returns : goal.returns
returns c =
    let a = c.args in
    let e = c.import-done.ensures in
    changed_by_lem (λ (z : Drive). import_done z a.vol.now a.key.now a.tweak.now a.bytes.now) (λ (z : Done). accepts z.answer) (λ (z : Drive). import_volume z a.vol.now a.key.now a.tweak.now a.bytes.now)
    c.opened.ensures e.0 e.1 c.is_ok.ensures.value c.hand_back.ensures.0 c.hand_back.ensures.1.told c.hand_back.ensures.1.shown
