use Rattle.layout.proofs.Limits.{limits}
use Rattle.drive.specs.Drive.{shape_of}
use native.Mathlib.Omega.{arith}
use Rattle.discarding.proofs.clears_none.Goals as goal

pub range_of-range-requires : goal.range_of-range-requires
range_of-range-requires c = omega (arith, c.requires.2, (limits (shape_of c.args.d) c.requires.0.limited).narrow)
