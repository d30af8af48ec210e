use Rattle.std.proofs.Common.{arith}
use Rattle.telling.proofs.ToldLaws.{told_reach}
use Rattle.telling.proofs.nugget_line.Goals as goal

pub overflow_cast-result : goal.overflow_cast-result
overflow_cast-result c = let a = c.args in omega (arith, told_reach a.d a.vol.now a.n c.put_nugget.ensures)
