use mathlib.Core.Path.{◌∙◌}
use Rattle.moving.proofs.AnswerLaws.{entered-sizes}
use Rattle.moving.proofs.CarryLaws.{move_made}
use Rattle.moving.proofs.carry_out.Goals as goal

pub over-requires : goal.over-requires
over-requires c =
    let a = c.args in
    let pre = c.requires in
    rw (c.shape_of.ensures, c.entering-x.ensures) (pre.0, pre.1, entered-sizes a.enter a.d)

pub advance-requires : goal.advance-requires
advance-requires c =
    let pre = c.requires in
    rw c.entering-x.ensures (record { limited = pre.1.limited; size = c.over.auto.second ∙ pre.1.size }, pre.2)

pub returns : goal.returns
returns c =
    let a = c.args in
    move_made a.enter a.d a.vol.now c.entering-x.ensures c.shape_of.ensures c.over.ensures c.advance.ensures.0 c.advance.ensures.1
