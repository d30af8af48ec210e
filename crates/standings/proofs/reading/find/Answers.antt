use Rattle.std.proofs.Common.{arith, take, ◌-◌, length, drop, length-drop, length-take}
use Rattle.line.proofs.ReadLaws.{up_to-le}
use Rattle.standings.proofs.reading.find.Goals as goal

pub overflow_add-result : goal.overflow_add-result
overflow_add-result c =
    let x = c.args in
    let rest = take (length x.text.now - x.at) (drop x.at x.text.now) in
    omega (arith, c.first.ensures, up_to-le x.mark rest, length-take (length x.text.now - x.at) (drop x.at x.text.now), length-drop x.at x.text.now)
