use mathlib.Core.Path.{refl}
use Rattle.changes.specs.Rekey.{begun_drive}
use Rattle.rekeying.proofs.begun.Goals as goal

pub returns : goal.returns
unfolding begun_drive
returns c = refl
