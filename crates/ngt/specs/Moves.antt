-- Document 02, Item 6, for C: "The drive becomes the second buffer's; refused: drive and second to the byte."
use Rattle.std.specs.Prelude.{List, ℕ, length}
use Rattle.drive.specs.declared.Drive.{Drive}
use Rattle.moving.specs.Move.{up_done, up_second, down_done, down_second}
use Rattle.ngt.specs.Calls.{Rekeyed}

-- drive, volume and second buffer as given; then the image as given, the number, and what second, image and answer hold
abbrev pub MovedUp : Drive → List ℕ → List ℕ → List ℕ → ℕ → List ℕ → List ℕ → List ℕ → Type 0
MovedUp d v w = Rekeyed (up_done d v (length w)) (up_second d v w)

abbrev pub MovedDown : Drive → List ℕ → List ℕ → List ℕ → ℕ → List ℕ → List ℕ → List ℕ → Type 0
MovedDown d v w = Rekeyed (down_done d v (length w)) (down_second d v w)
