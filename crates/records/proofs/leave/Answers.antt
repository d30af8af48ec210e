use Rattle.records.specs.Journal.{without}
use mathlib.Core.Path.{refl}
use Rattle.records.proofs.leave.Goals as goal

pub returns : goal.returns
unfolding without
returns c = refl
