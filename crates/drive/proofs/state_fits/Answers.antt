use mathlib.Core.Path.{refl}
use Rattle.drive.proofs.state_fits.Goals as goal

pub returns-in-Steady : goal.returns-in-Steady
returns-in-Steady c = rw c.in-Steady.is refl
