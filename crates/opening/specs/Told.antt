-- What format and mount hand back of a drive or a refusal: "A refused format or mount returns the blank drive".
use Rattle.std.specs.Prelude.{Result, Ok, Err}
use Rattle.answers.specs.Answer as A
use Rattle.answers.specs.declared.Refusal.{Refusal}
use Rattle.drive.specs.declared.Drive.{Drive}
use Rattle.drive.specs.declared.Done.{Done}
use Rattle.drive.specs.Drive.{blank_drive}

abbrev pub told : Result Drive Refusal → Done
told (Ok d) = record { answer = A.Accepted; drive = d }
told (Err r) = record { answer = Err r; drive = blank_drive }
