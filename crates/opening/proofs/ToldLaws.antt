-- What `?` hands out of a call that opens a drive.
use mathlib.Core.Path.{◌≡◌, sym, ap, ◌∙◌}
use Rattle.std.specs.Prelude.{Result, Ok, Err, IsErrAnd}
use Rattle.answers.specs.Answer.{Answer}
use Rattle.answers.specs.declared.Refusal.{Refusal}
use Rattle.drive.specs.declared.Drive.{Drive}
use Rattle.drive.specs.declared.Done.{Done}
use Rattle.drive.specs.Drive.{blank_drive}
use Rattle.opening.specs.Told.{told}

-- the refusal of the test, with the blank drive
pub blank_told : (r : Result Drive Refusal) (a : Answer) (e : Refusal) → IsErrAnd r (λ y. y ≡ e) → a ≡ Err e → told r ≡ record { answer = a; drive = blank_drive }
blank_told (Ok d) a e h was = absurd h
blank_told (Err y) a e h was = refused (ap (λ (z : Refusal). Err z) h ∙ sym was)
  where
    refused : {x z : Answer} → x ≡ z → ◌≡◌ {A = Done} (record { answer = x; drive = blank_drive }) (record { answer = z; drive = blank_drive })
    refused q = rw q
