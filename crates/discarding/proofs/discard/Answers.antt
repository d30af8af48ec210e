use Rattle.changes.proofs.DiscardLaws.{discard-told, clears-room, clears_not}
use Rattle.discarding.proofs.DoneLaws.{clears-on, done_on, done_off, clears-refused}
use Rattle.answers.specs.Numbers.{accepts}
use native.Mathlib.Omega.{arith}
use mathlib.Core.Bool.{not}
use mathlib.Core.Path.{sym, ◌∙◌, ap}
use Rattle.discarding.proofs.discard.Goals as goal
use Rattle.discarding.proofs.discard.Goals.{then-is_err-via-then-is_err, then-is_err-via-else-is_err+then-clears_none}

pub clears_none-requires : goal.clears_none-requires
clears_none-requires c =
    let a = c.args in
    let is = discard-told a.d a.vol.now a.freed.nugget a.freed.first a.freed.count (ap accepts (sym c.admit-answer.ensures) ∙ c.is_err.ensures.negation ∙ ap not c.if-is_err.false) in
    (is.lent, is.inside, is.few)

pub returns-then-is_err : goal.returns-then-is_err
returns-then-is_err c =
    let a = c.args in
    let answer = sym c.admit-answer.ensures in
    let nothing = done_off a.d a.vol.now a.freed.nugget a.freed.first a.freed.count answer in
    elim c.then-is_err.branch [
      | then-is_err-via-then-is_err w ↦
          nothing (clears-refused a.d a.vol.now a.freed.nugget a.freed.first a.freed.count answer (c.is_err.ensures.negation ∙ ap not w.if-is_err.true))
      | then-is_err-via-else-is_err+then-clears_none w ↦
          nothing (clears_not a.d a.vol.now a.freed.nugget a.freed.first a.freed.count (sym w.clears_none.ensures ∙ w.if-clears_none.true))
    ]

pub clear-requires : goal.clear-requires
clear-requires c =
    let a = c.args in
    let is = discard-told a.d a.vol.now a.freed.nugget a.freed.first a.freed.count (ap accepts (sym c.admit-answer.ensures) ∙ c.is_err.ensures.negation ∙ ap not c.if-is_err.false) in
    (is.lent, is.inside, is.few)

pub advance-next-requires : goal.advance-next-requires
advance-next-requires c =
    let a = c.args in
    let answer = sym c.admit-answer.ensures in
    let accepted = c.is_err.ensures.negation ∙ ap not c.if-is_err.false in
    let is = discard-told a.d a.vol.now a.freed.nugget a.freed.first a.freed.count (ap accepts answer ∙ accepted) in
    let on = clears-on a.d a.vol.now a.freed.nugget a.freed.first a.freed.count answer accepted (sym c.clears_none.ensures ∙ c.if-clears_none.false) in
    (record { limited = is.lent.limited; size = c.clear.auto.vol ∙ is.lent.size }, omega (arith, clears-room a.d a.vol.now a.freed.nugget a.freed.first a.freed.count on))

pub returns : goal.returns
returns c =
    let a = c.args in
    let accepted = c.is_err.ensures.negation ∙ ap not c.if-is_err.false in
    let some = sym c.clears_none.ensures ∙ c.if-clears_none.false in
    done_on a.d a.vol.now a.freed.nugget a.freed.first a.freed.count (sym c.admit-answer.ensures) accepted some c.clear.ensures c.advance-next.ensures.0 c.advance-next.ensures.1
