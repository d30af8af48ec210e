use Rattle.changes.proofs.AnswerLaws.{begin-told}
use Rattle.rekeying.proofs.DoneLaws.{done_on, done_off}
use Rattle.changes.specs.Rekey.{begun_drive, begin_done, begin_volume}
use Rattle.changes.specs.Change.{settled}
use Rattle.drive.specs.declared.Drive.{Drive}
use native.Mathlib.Omega.{arith}
use Rattle.answers.specs.Numbers.{accepts}
use mathlib.Core.Bool.{not}
use mathlib.Core.Path.{sym, ◌∙◌, ap}
use Rattle.rekeying.proofs.begin.Goals as goal

pub begun-next-requires : goal.begun-next-requires
begun-next-requires c =
    let is = begin-told c.args.d c.args.vol.now c.args.secret (ap accepts (sym c.begin-answer.ensures) ∙ c.is_err.ensures.negation ∙ ap not c.if-is_err.false) in
    (omega (arith, is.epoch_room), omega (arith, is.counter_room))

pub settle-requires : goal.settle-requires
settle-requires c =
    let is = begin-told c.args.d c.args.vol.now c.args.secret (ap accepts (sym c.begin-answer.ensures) ∙ c.is_err.ensures.negation ∙ ap not c.if-is_err.false) in
    omega (arith, is.lent.size)

pub returns : goal.returns
unfolding begin_done begin_volume
returns c =
    let v = c.args.vol.now in
    let new = begun_drive c.args.d c.args.secret in
    done_on c.args.d new v (settled new v) (sym c.begin-answer.ensures) (c.is_err.ensures.negation ∙ ap not c.if-is_err.false) c.begun-next.ensures (c.settle.ensures ∙ ap (λ (x : Drive). settled x v) c.begun-next.ensures)

pub returns-then-is_err : goal.returns-then-is_err
unfolding begin_done begin_volume
returns-then-is_err c =
    let v = c.args.vol.now in
    let new = begun_drive c.args.d c.args.secret in
    done_off c.args.d new v (settled new v) (sym c.begin-answer.ensures) (c.is_err.ensures.negation ∙ ap not c.if-is_err.true)
