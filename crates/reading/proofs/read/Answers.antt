use Rattle.reading.proofs.AnswerLaws.{read_lent, met, filled, left_alone}
use Rattle.answers.specs.Numbers.{accepts}
use lib.ListN.{length}
use mathlib.Core.Path.{sym, ◌∙◌, ap}
use Rattle.reading.proofs.read.Goals as goal

pub fill-requires : goal.fill-requires
fill-requires c =
    let a = c.args in
    read_lent a.d a.vol.now a.offset (length a.buf.now) (ap accepts (sym c.admit-answer.ensures) ∙ sym c.is_ok.ensures.value ∙ c.if-is_ok.true)

pub returns-then-is_ok : goal.returns-then-is_ok
returns-then-is_ok c =
    let a = c.args in
    let answer = c.admit-answer.ensures in
    (answer, filled a.d a.vol.now a.offset a.buf.now c.admit-answer.result (sym c.is_ok.ensures.value ∙ c.if-is_ok.true) c.fill.ensures ∙ met a.d a.vol.now a.offset a.buf.now answer)

pub returns-else-is_ok : goal.returns-else-is_ok
returns-else-is_ok c =
    let a = c.args in
    let answer = c.admit-answer.ensures in
    (answer, left_alone a.d a.vol.now a.offset a.buf.now c.admit-answer.result (sym c.is_ok.ensures.value ∙ c.if-is_ok.false) ∙ met a.d a.vol.now a.offset a.buf.now answer)
