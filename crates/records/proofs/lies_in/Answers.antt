use mathlib.Core.Path.{refl}
use Rattle.records.specs.Journal.{lies_in}
use Rattle.records.proofs.lies_in.Goals as goal

pub returns : goal.returns
unfolding lies_in
returns c = refl
