use Rattle.changes.proofs.AnswerLaws.{write-told, write_rise}
use Rattle.writing.proofs.AnswerLaws.{met_stored, met_empty, met_refused}
use Rattle.drive.specs.Drive.{shape_of}
use Rattle.layout.proofs.Limits.{limits, capacity-le}
use Rattle.answers.specs.Numbers.{accepts}
use borrow.Author.Tests.{eqb-true}
use Rattle.std.proofs.lemmas.Bool.{eqb-false}
use native.Mathlib.Nat.{pos_of_ne-zero}
use lib.ListN.{length}
use Prim.Native.Nat.{◌<◌}
use native.Mathlib.Omega.{arith}
use mathlib.Core.Path.{sym, ◌∙◌, ap}
use Rattle.writing.proofs.write.Goals as goal
use Rattle.writing.proofs.write.Goals.{else-is_ok-via-then-is_ok+else-not-is_empty, else-is_ok-via-else-is_ok}

pub invariant_of-store : goal.invariant_of-store
invariant_of-store c =
    let a = c.args in
    let some : 0 < length a.bytes.now = pos_of_ne-zero (eqb-false _ 0 (sym c.is_empty.ensures ∙ c.if-not-is_empty.true)) in
    let h = write-told a.d a.vol.now a.offset (length a.bytes.now) some (ap accepts (sym c.admit-answer.ensures) ∙ sym c.is_ok.ensures.value ∙ c.if-is_ok.true) in
    record { within = omega (arith, h.in_range, capacity-le (shape_of a.d) (limits (shape_of a.d) h.lent.limited)) }

pub store-drive-requires : goal.store-drive-requires
store-drive-requires c =
    let a = c.args in
    let some : 0 < length a.bytes.now = pos_of_ne-zero (eqb-false _ 0 (sym c.is_empty.ensures ∙ c.if-not-is_empty.true)) in
    let h = write-told a.d a.vol.now a.offset (length a.bytes.now) some (ap accepts (sym c.admit-answer.ensures) ∙ sym c.is_ok.ensures.value ∙ c.if-is_ok.true) in
    (h.lent, some, h.in_range, write_rise (omega arith) h, omega (arith, h.counter_room))

pub returns-then-not-is_empty : goal.returns-then-not-is_empty
returns-then-not-is_empty c =
    let a = c.args in
    met_stored a.d a.vol.now a.offset a.bytes.now c.admit-answer.ensures (sym c.is_ok.ensures.value ∙ c.if-is_ok.true) (pos_of_ne-zero (eqb-false _ 0 (sym c.is_empty.ensures ∙ c.if-not-is_empty.true))) c.store-drive.ensures.0 c.store-drive.ensures.1

pub returns-else-is_ok : goal.returns-else-is_ok
returns-else-is_ok c =
    let a = c.args in
    elim c.else-is_ok.branch [
      | else-is_ok-via-then-is_ok+else-not-is_empty w ↦ met_empty a.d a.vol.now a.offset a.bytes.now c.admit-answer.ensures (sym c.is_ok.ensures.value ∙ w.if-is_ok.true) (omega (arith, eqb-true _ 0 (sym w.is_empty.ensures ∙ w.if-not-is_empty.false)))
      | else-is_ok-via-else-is_ok w ↦ met_refused a.d a.vol.now a.offset a.bytes.now c.admit-answer.ensures (sym c.is_ok.ensures.value ∙ w.if-is_ok.false)
    ]
