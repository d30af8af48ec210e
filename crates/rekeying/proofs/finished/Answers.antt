use mathlib.Core.Path.{refl}
use Rattle.changes.specs.Rekey.{finished_drive}
use Rattle.rekeying.proofs.finished.Goals as goal

pub returns : goal.returns
unfolding finished_drive
returns c = refl
