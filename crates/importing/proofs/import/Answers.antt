use mathlib.Core.Path.{sym, ◌∙◌}
use native.Mathlib.Omega.{arith}
use lib.ListN.{length}
use Rattle.changes.proofs.AnswerLaws.{write-told, write_rise}
use Rattle.sectors.proofs.SectorLaws.{length-decrypted}
use Rattle.handing.proofs.HandLaws.{few_sectors}
use Rattle.importing.proofs.ImportLaws.{some_bytes, both_accept, granted, import-refused, import-stored}
use Rattle.importing.proofs.import.Goals as goal

pub invariant_of-store : goal.invariant_of-store
invariant_of-store c =
    let a = c.args in
    let g = granted a.d a.vol.now a.one a.two a.bytes.now c.admit-answer.ensures (sym c.is_ok.ensures.value ∙ c.if-is_ok.true) in
    record { whole = g.even; few = few_sectors a.d a.vol.now a.one a.two (length a.bytes.now) g }

pub store-drive-requires : goal.store-drive-requires
store-drive-requires c =
    let a = c.args in
    let on = sym c.is_ok.ensures.value ∙ c.if-is_ok.true in
    let g = granted a.d a.vol.now a.one a.two a.bytes.now c.admit-answer.ensures on in
    let some = some_bytes a.d a.vol.now g.lent g.whole in
    let h = write-told a.d a.vol.now 0 (length a.bytes.now) some (both_accept a.d a.vol.now a.one a.two a.bytes.now c.admit-answer.ensures on).1 in
    let long = length-decrypted a.one a.two 0 a.bytes.now g.even in
    (g.lent, rw long some, g.whole, rw long (write_rise (omega arith) h), omega (arith, h.counter_room))

pub returns-then-is_ok : goal.returns-then-is_ok
returns-then-is_ok c =
    let a = c.args in
    let on = sym c.is_ok.ensures.value ∙ c.if-is_ok.true in
    let g = granted a.d a.vol.now a.one a.two a.bytes.now c.admit-answer.ensures on in
    let some = some_bytes a.d a.vol.now g.lent g.whole in
    import-stored a.d a.vol.now a.one a.two a.bytes.now c.admit-answer.ensures on (rw (length-decrypted a.one a.two 0 a.bytes.now g.even) some) c.store-drive.ensures.0 c.store-drive.ensures.1

pub returns-else-is_ok : goal.returns-else-is_ok
returns-else-is_ok c =
    let a = c.args in
    import-refused a.d a.vol.now a.one a.two a.bytes.now c.admit-answer.ensures (sym c.is_ok.ensures.value ∙ c.if-is_ok.false)
