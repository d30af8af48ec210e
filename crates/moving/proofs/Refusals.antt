-- "A refusal stores nothing and returns the drive as given.": a refused move leaves drive and second buffer to the byte.
use mathlib.Core.Path.{◌≡◌, refl, sym}
use mathlib.Core.List.{List}
use Prim.Native.Nat.{ℕ}
use lib.ListN.{length}
use Rattle.answers.specs.Answer as A
use Rattle.answers.proofs.StageLaws.{refuses}
use Rattle.drive.specs.declared.Drive.{Drive}
use Rattle.moving.specs.Move.{move_answer, move_done, move_second, up_answer, up_done, up_second, down_answer, down_done, down_second}
use Rattle.moving.proofs.AnswerLaws.{move_off}

module _ (d : Drive) (v w : List ℕ) where
  pub move_refused : (leave enter : ℕ) → (move_answer leave enter d v (length w) ≡ A.Accepted → ⊥)
      → (move_done leave enter d v (length w) ≡ record { answer = move_answer leave enter d v (length w); drive = d }) × (move_second leave enter d v w ≡ w)
  move_refused leave enter h =
      let off = move_off leave enter d v w refl (refuses (move_answer leave enter d v (length w)) h) in
      (sym off.0, sym off.1)

  pub up-refused : (up_answer d v (length w) ≡ A.Accepted → ⊥)
      → (up_done d v (length w) ≡ record { answer = up_answer d v (length w); drive = d }) × (up_second d v w ≡ w)
  up-refused h = move_refused 1 2 h

  pub down-refused : (down_answer d v (length w) ≡ A.Accepted → ⊥)
      → (down_done d v (length w) ≡ record { answer = down_answer d v (length w); drive = d }) × (down_second d v w ≡ w)
  down-refused h = move_refused 2 1 h
