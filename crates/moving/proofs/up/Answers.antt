use mathlib.Core.Path.{refl}
use Rattle.layout.specs.Shape.{known_version}
use Rattle.moving.proofs.up.Goals as goal

pub move_between-requires : goal.move_between-requires
unfolding known_version
move_between-requires c = refl
