-- "A refusal stores nothing and returns the drive as given." One that clears nothing: `changes` `discard-idle`.
use mathlib.Core.Path.{◌≡◌, refl}
use mathlib.Core.List.{List}
use Prim.Native.Nat.{ℕ}
use Rattle.answers.specs.Answer as A
use Rattle.answers.proofs.StageLaws.{refuses}
use Rattle.drive.specs.declared.Drive.{Drive}
use Rattle.changes.specs.Discard.{discard_answer, discard_done, discard_volume}
use Rattle.changes.proofs.DiscardLaws.{clears_off}
use Rattle.discarding.proofs.DoneLaws.{clears-refused}

pub discard-refused : (d : Drive) (v : List ℕ) (n first count : ℕ) → (discard_answer d v n first count ≡ A.Accepted → ⊥)
    → (discard_done d v n first count ≡ record { answer = discard_answer d v n first count; drive = d }) × (discard_volume d v n first count ≡ v)
discard-refused d v n first count h =
    clears_off d v n first count (clears-refused d v n first count refl (refuses (discard_answer d v n first count) h))
