-- A host keeps the drive as 144 bytes between calls. No drive that a call hands back loses anything there, accepted or refused,
-- on any volume. Each statement is proved, under the same name in small letters, in proofs/Back.antt.
use Rattle.std.specs.Prelude.{ℕ, ◌^◌, ◌<◌, ◌≡◌, List, length}
use Rattle.words.specs.Le.{Bytes}
use Rattle.layout.specs.declared.Shape.{Shape}
use Rattle.drive.specs.declared.Drive.{Drive}
use Rattle.packed.specs.Image.{drive_image, drive_in, DriveFits}
use Rattle.opening.specs.Format.{format_done}
use Rattle.opening.specs.Mount.{mount_done}
use Rattle.changes.specs.Write.{write_done}
use Rattle.changes.specs.Rekey.{begin_done, sweep_done, finish_done}
use Rattle.changes.specs.Discard.{discard_done}

-- each field is within its type, and so the drive comes back from its image
pub record ComesBack (d : Drive) : Type 0 where
  pub fits : DriveFits d
  pub back : drive_in (drive_image d) ≡ d

-- a drive in whatever image a host brings
abbrev pub ImageCarried : Type 0
ImageCarried = (image : List ℕ) → length image ≡ 144 → Bytes image → ComesBack (drive_in image)

abbrev pub FormatCarried : Type 0
FormatCarried =
    (s : Shape) (salt secret v : List ℕ) (outside : ℕ) → length salt ≡ 16 → length secret ≡ 32 → outside < 2 ^ 64
    → ComesBack (format_done s salt secret outside v).drive

abbrev pub MountCarried : Type 0
MountCarried =
    (v present old : List ℕ) (outside : ℕ) → Bytes v → length present ≡ 32 → length old ≡ 32 → ComesBack (mount_done v present old outside).drive

abbrev pub WriteCarried : Type 0
WriteCarried = (d : Drive) (v : List ℕ) (o : ℕ) (bytes : List ℕ) → DriveFits d → ComesBack (write_done d v o bytes).drive

abbrev pub BeginCarried : Type 0
BeginCarried = (d : Drive) (v secret : List ℕ) → length secret ≡ 32 → DriveFits d → ComesBack (begin_done d v secret).drive

abbrev pub SweepCarried : Type 0
SweepCarried = (d : Drive) (v : List ℕ) (n : ℕ) → DriveFits d → ComesBack (sweep_done d v n).drive

abbrev pub FinishCarried : Type 0
FinishCarried = (d : Drive) (v : List ℕ) → DriveFits d → ComesBack (finish_done d v).drive

abbrev pub DiscardCarried : Type 0
DiscardCarried = (d : Drive) (v : List ℕ) (n first count : ℕ) → DriveFits d → ComesBack (discard_done d v n first count).drive
