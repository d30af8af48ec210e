use Rattle.changes.proofs.AnswerLaws.{finish-told}
use Rattle.rekeying.proofs.DoneLaws.{done_on, done_off}
use Rattle.changes.specs.Rekey.{finished_drive, finish_done, finish_volume}
use Rattle.changes.specs.Change.{settled}
use Rattle.drive.specs.declared.Drive.{Drive}
use native.Mathlib.Omega.{arith}
use Rattle.answers.specs.Numbers.{accepts}
use mathlib.Core.Bool.{not}
use mathlib.Core.Path.{sym, ◌∙◌, ap}
use Rattle.rekeying.proofs.finish.Goals as goal

pub finished-next-requires : goal.finished-next-requires
finished-next-requires c =
    let is = finish-told c.args.d c.args.vol.now (ap accepts (sym c.finish-answer.ensures) ∙ c.is_err.ensures.negation ∙ ap not c.if-is_err.false) in
    omega (arith, is.counter_room)

pub settle-requires : goal.settle-requires
settle-requires c =
    let is = finish-told c.args.d c.args.vol.now (ap accepts (sym c.finish-answer.ensures) ∙ c.is_err.ensures.negation ∙ ap not c.if-is_err.false) in
    omega (arith, is.lent.size)

pub returns : goal.returns
unfolding finish_done finish_volume
returns c =
    let v = c.args.vol.now in
    let new = finished_drive c.args.d in
    done_on c.args.d new v (settled new v) (sym c.finish-answer.ensures) (c.is_err.ensures.negation ∙ ap not c.if-is_err.false) c.finished-next.ensures (c.settle.ensures ∙ ap (λ (x : Drive). settled x v) c.finished-next.ensures)

pub returns-then-is_err : goal.returns-then-is_err
unfolding finish_done finish_volume
returns-then-is_err c =
    let v = c.args.vol.now in
    let new = finished_drive c.args.d in
    done_off c.args.d new v (settled new v) (sym c.finish-answer.ensures) (c.is_err.ensures.negation ∙ ap not c.if-is_err.true)
