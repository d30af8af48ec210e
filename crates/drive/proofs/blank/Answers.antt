use Rattle.drive.specs.Drive.{blank_drive}
use mathlib.Core.Path.{refl}
use Rattle.drive.proofs.blank.Goals as goal

pub returns : goal.returns
unfolding blank_drive
returns c = refl
