use Rattle.ngt.proofs.CallLaws.{changed_by_lem}
use Rattle.changes.specs.Write.{writes, write_done, write_volume}
use Rattle.drive.specs.declared.Drive.{Drive}
use Rattle.drive.specs.declared.Done.{Done}
use Rattle.ngt.proofs.changing.ngt_write.Goals as goal

pub returns : goal.returns
returns c =
    let a = c.args in
    let e = c.write-done.ensures in
    changed_by_lem (λ (z : Drive). write_done z a.vol.now a.offset a.bytes.now) (λ (z : Done). writes z.answer a.bytes.now) (λ (z : Drive). write_volume z a.vol.now a.offset a.bytes.now)
    c.opened.ensures e.0 e.1 c.writes_by.ensures c.hand_back.ensures.0 c.hand_back.ensures.1.told c.hand_back.ensures.1.shown
