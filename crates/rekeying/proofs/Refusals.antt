-- "A refusal stores nothing and returns the drive as given."
use mathlib.Core.Path.{◌≡◌, refl, sym}
use mathlib.Core.List.{List}
use Prim.Native.Nat.{ℕ}
use Rattle.answers.specs.Answer.{Answer}
use Rattle.answers.specs.Answer as A
use Rattle.answers.proofs.StageLaws.{refuses}
use Rattle.drive.specs.declared.Drive.{Drive}
use Rattle.drive.specs.declared.Done.{Done}
use Rattle.changes.specs.Change.{settled}
use Rattle.changes.specs.Rekey.{begin_answer, begun_drive, begin_done, begin_volume, sweep_answer, sweep_work, swept_drive, sweep_done, sweep_volume, finish_answer, finished_drive, finish_done, finish_volume}
use Rattle.rekeying.proofs.DoneLaws.{done_off}

-- drive and volume as they came
abbrev pub AsGiven : Answer → Drive → List ℕ → Done → List ℕ → Type 0
AsGiven a d v done w = (done ≡ record { answer = a; drive = d }) × (w ≡ v)

pub begin-refused : (d : Drive) (v secret : List ℕ) → (begin_answer d v secret ≡ A.Accepted → ⊥)
    → AsGiven (begin_answer d v secret) d v (begin_done d v secret) (begin_volume d v secret)
unfolding begin_done begin_volume
begin-refused d v secret h =
    let off = done_off d (begun_drive d secret) v (settled (begun_drive d secret) v) refl (refuses (begin_answer d v secret) h) in
    (sym off.0, sym off.1)

pub sweep-refused : (d : Drive) (v : List ℕ) (n : ℕ) → (sweep_answer d v n ≡ A.Accepted → ⊥)
    → AsGiven (sweep_answer d v n) d v (sweep_done d v n) (sweep_volume d v n)
unfolding sweep_done sweep_volume
sweep-refused d v n h =
    let off = done_off d (swept_drive d v n) v (settled (swept_drive d v n) (sweep_work d v n)) refl (refuses (sweep_answer d v n) h) in
    (sym off.0, sym off.1)

pub finish-refused : (d : Drive) (v : List ℕ) → (finish_answer d v ≡ A.Accepted → ⊥)
    → AsGiven (finish_answer d v) d v (finish_done d v) (finish_volume d v)
unfolding finish_done finish_volume
finish-refused d v h =
    let off = done_off d (finished_drive d) v (settled (finished_drive d) v) refl (refuses (finish_answer d v) h) in
    (sym off.0, sym off.1)
