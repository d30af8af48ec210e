use Rattle.fleets.proofs.LineLaws.{fleet_short}
use native.Mathlib.Omega.{arith}
use Rattle.ngt.proofs.ngt_fleet.Goals as goal

pub overflow_cast-result : goal.overflow_cast-result
overflow_cast-result c = omega (arith, c.fleet_line-k.ensures.behind, fleet_short c.args.lines.now)
