use mathlib.Core.Bool.{not}
use mathlib.Core.Path.{sym, ap, ◌∙◌}
use Prim.Native.Nat.{◌<◌}
use native.Mathlib.Omega.{arith}
use lib.ListN.{length}
use Rattle.answers.specs.Numbers.{accepts}
use Rattle.drive.specs.Drive.{counter_top}
use Rattle.moving.proofs.AnswerLaws.{move_told, move_on, move_off, entered-limited}
use Rattle.moving.proofs.move_between.Goals as goal

pub carry_out-next-requires : goal.carry_out-next-requires
carry_out-next-requires c =
    let a = c.args in
    let is = move_told a.leave a.enter a.d a.vol.now (length a.second.now) (ap accepts (sym c.admit-answer.ensures) ∙ c.is_err.ensures.negation ∙ ap not c.if-is_err.false) in
    let low : a.d.counter < counter_top = omega (arith, is.counter_room) in
    (is.lent, record { limited = entered-limited a.enter a.d c.requires is.lent.limited; size = is.long }, low)

pub returns : goal.returns
returns c =
    let a = c.args in
    move_on a.leave a.enter a.d a.vol.now a.second.now (sym c.admit-answer.ensures) (c.is_err.ensures.negation ∙ ap not c.if-is_err.false) c.carry_out-next.ensures.0 c.carry_out-next.ensures.1

pub returns-then-is_err : goal.returns-then-is_err
returns-then-is_err c =
    let a = c.args in
    move_off a.leave a.enter a.d a.vol.now a.second.now (sym c.admit-answer.ensures) (c.is_err.ensures.negation ∙ ap not c.if-is_err.true)
