use Rattle.std.proofs.Common.{arith}
use Rattle.standings.proofs.ReadingLaws.{found_le, behind_is}
use Rattle.standings.proofs.reading.behind.Goals as goal

pub overflow_add-find : goal.overflow_add-find
overflow_add-find c =
    let x = c.args in
    omega (arith, found_le x.mark x.text.now x.at c.requires c.find.ensures)

pub returns : goal.returns
returns c =
    let x = c.args in
    (omega (arith, c.min.ensures), rw c.min.ensures (behind_is x.mark x.text.now x.at c.find.ensures))
