-- The statements of specs/Moves, read off what an accepted move leaves.
use mathlib.Core.Path.{◌≡◌, refl, ap}
use mathlib.Core.List.{List}
use Prim.Native.Nat.{ℕ}
use lib.ListN.{length}
use Rattle.base.proofs.PickLaws.{yes}
use Rattle.answers.specs.Answer as A
use Rattle.answers.specs.Numbers.{accepts}
use Rattle.layout.specs.Shape.{known_version}
use Rattle.drive.specs.declared.Drive.{Drive}
use Rattle.moving.specs.Carry.{moved_drive, moved_volume}
use Rattle.moving.specs.Move.{move_answer, move_done, move_second}
use Rattle.moving.proofs.AnswerLaws.{Leaves, move_told, leaves-accepted}
use Rattle.moved.specs.Moves.{MoveKeeps, MovedMounts, BackAccepted, ThereAndBack, UpDown, DownAfterUp}
use Rattle.moved.proofs.After.{codes_over, carried-after, moved_back}
use Rattle.moved.proofs.Back.{back-leaves, back-same}

module _ (leave enter : ℕ) (d : Drive) (v w : List ℕ) (e : move_answer leave enter d v (length w) ≡ A.Accepted) where
  pub drive_is : (move_done leave enter d v (length w)).drive ≡ moved_drive enter d v
  unfolding move_done
  drive_is = yes _ (ap accepts e) refl

  pub volume_is : move_second leave enter d v w ≡ moved_volume enter d v
  unfolding move_second
  volume_is = yes _ (ap accepts e) refl

  pub told : Leaves leave enter d v (length w)
  told = move_told leave enter d v (length w) (ap accepts e)

pub move_keeps : MoveKeeps
move_keeps leave enter d v w known typed e n h =
    let x = told leave enter d v w e in
    rw (drive_is leave enter d v w e, volume_is leave enter d v w e)
    (carried-after leave enter d v (length w) known typed.salted (codes_over leave enter d v (length w) typed x) x n h)

pub moved-mounts : MovedMounts
moved-mounts leave enter d v w known typed e =
    let x = told leave enter d v w e in
    rw (drive_is leave enter d v w e, volume_is leave enter d v w e)
    (moved_back leave enter d v (length w) known typed.salted (codes_over leave enter d v (length w) typed x) x typed.epoch_lt typed.counter_lt)

pub back-accepted : BackAccepted
back-accepted leave enter d v w len known known' typed e =
    rw (drive_is leave enter d v w e, volume_is leave enter d v w e) (λ low long.
    leaves-accepted enter leave (moved_drive enter d v) (moved_volume enter d v) len
    (back-leaves leave enter d v (length w) known known' typed (told leave enter d v w e) len long low))

pub there_and_back : ThereAndBack
there_and_back leave enter d v w z known known' typed bytes e =
    rw (drive_is leave enter d v w e, volume_is leave enter d v w e) (λ back.
    rw (volume_is enter leave (moved_drive enter d v) (moved_volume enter d v) z back)
    (back-same leave enter d v (length w) known known' typed (told leave enter d v w e) bytes (length z)
    (told enter leave (moved_drive enter d v) (moved_volume enter d v) z back)))

pub up-down : UpDown
unfolding known_version
up-down d v w z typed bytes e = there_and_back 1 2 d v w z refl refl typed bytes e

pub down-after-up : DownAfterUp
unfolding known_version
down-after-up d v w typed e low = back-accepted 1 2 d v w (length v) refl refl typed e low refl
