use Rattle.std.proofs.Common.{refl}
use Rattle.summaries.specs.Entries.{rolled}
use Rattle.summaries.proofs.rolled.Goals as goal

pub returns : goal.returns
unfolding rolled
returns c = refl
