use Rattle.std.proofs.Common.{arith, lit≤}
use Rattle.layout.proofs.Height.{leaves-least}
use Rattle.summaries.proofs.length_of.Goals as goal

pub overflow_mul-result : goal.overflow_mul-result
overflow_mul-result c = omega (arith, c.leaves_of.ensures, leaves-least 14 c.args.n (lit≤ tt) c.requires)

pub overflow_mul-result-2 : goal.overflow_mul-result-2
overflow_mul-result-2 c = omega (arith, c.leaves_of.ensures, leaves-least 14 c.args.n (lit≤ tt) c.requires)
