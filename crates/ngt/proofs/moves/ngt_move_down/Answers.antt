use Rattle.ngt.proofs.CallLaws.{changed_by_lem}
use Rattle.answers.specs.Numbers.{accepts}
use Rattle.drive.specs.declared.Drive.{Drive}
use Rattle.drive.specs.declared.Done.{Done}
use lib.ListN.{length}
use Rattle.moving.specs.Move.{down_done, down_second}
use Rattle.ngt.proofs.moves.ngt_move_down.Goals as goal

pub returns : goal.returns
returns c =
    let a = c.args in
    let e = c.down-done.ensures in
    changed_by_lem (λ (z : Drive). down_done z a.vol.now (length a.second.now)) (λ (z : Done). accepts z.answer) (λ (z : Drive). down_second z a.vol.now a.second.now)
    c.opened.ensures e.0 e.1 c.is_ok.ensures.value c.hand_back.ensures.0 c.hand_back.ensures.1.told c.hand_back.ensures.1.shown
