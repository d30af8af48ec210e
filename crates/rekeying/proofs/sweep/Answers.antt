use Rattle.changes.proofs.AnswerLaws.{sweep-told, sweep_rise}
use Rattle.rekeying.proofs.DoneLaws.{done_on, done_off}
use Rattle.changes.specs.Rekey.{sweep_work, swept_drive, sweep_done, sweep_volume}
use Rattle.changes.specs.Change.{advanced, settled}
use native.Mathlib.Omega.{arith}
use Prim.Native.Nat.{ℕ}
use mathlib.Core.List.{List}
use Rattle.answers.specs.Numbers.{accepts}
use mathlib.Core.Bool.{not}
use mathlib.Core.Path.{sym, ◌∙◌, ap}
use Rattle.rekeying.proofs.sweep.Goals as goal

pub rekey-requires : goal.rekey-requires
rekey-requires c =
    let is = sweep-told c.args.d c.args.vol.now c.args.n (ap accepts (sym c.sweep-answer.ensures) ∙ c.is_err.ensures.negation ∙ ap not c.if-is_err.false) in
    (is.lent, is.inside, sweep_rise (omega arith) is)

pub advance-next-requires : goal.advance-next-requires
advance-next-requires c =
    let is = sweep-told c.args.d c.args.vol.now c.args.n (ap accepts (sym c.sweep-answer.ensures) ∙ c.is_err.ensures.negation ∙ ap not c.if-is_err.false) in
    (record { limited = is.lent.limited; size = c.rekey.auto.vol ∙ is.lent.size }, omega (arith, is.counter_room))

pub returns : goal.returns
unfolding sweep_done sweep_volume
returns c =
    let d = c.args.d in
    let v = c.args.vol.now in
    let n = c.args.n in
    let new = swept_drive d v n in
    let w = sweep_work d v n in
    done_on d new v (settled new w) (sym c.sweep-answer.ensures) (c.is_err.ensures.negation ∙ ap not c.if-is_err.false) (c.advance-next.ensures.0 ∙ ap (λ (x : List ℕ). advanced d x) c.rekey.ensures) (c.advance-next.ensures.1 ∙ ap (λ (x : List ℕ). settled (advanced d x) x) c.rekey.ensures)

pub returns-then-is_err : goal.returns-then-is_err
unfolding sweep_done sweep_volume
returns-then-is_err c =
    let d = c.args.d in
    let v = c.args.vol.now in
    let n = c.args.n in
    let new = swept_drive d v n in
    let w = sweep_work d v n in
    done_off d new v (settled new w) (sym c.sweep-answer.ensures) (c.is_err.ensures.negation ∙ ap not c.if-is_err.true)
