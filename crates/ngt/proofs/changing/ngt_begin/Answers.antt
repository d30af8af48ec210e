use Rattle.ngt.proofs.CallLaws.{changed_by_lem}
use Rattle.answers.specs.Numbers.{accepts}
use Rattle.drive.specs.declared.Drive.{Drive}
use Rattle.drive.specs.declared.Done.{Done}
use Rattle.changes.specs.Rekey.{begin_done, begin_volume}
use Rattle.ngt.proofs.changing.ngt_begin.Goals as goal

pub returns : goal.returns
returns c =
    let a = c.args in
    let e = c.begin-done.ensures in
    changed_by_lem (λ (z : Drive). begin_done z a.vol.now a.secret.now) (λ (z : Done). accepts z.answer) (λ (z : Drive). begin_volume z a.vol.now a.secret.now)
    c.opened.ensures e.0 e.1 c.is_ok.ensures.value c.hand_back.ensures.0 c.hand_back.ensures.1.told c.hand_back.ensures.1.shown
