use mathlib.Core.Path.{refl}
use Rattle.records.specs.Journal.{share_none}
use Rattle.records.proofs.share_none.Goals as goal

pub returns : goal.returns
unfolding share_none
returns c = refl
