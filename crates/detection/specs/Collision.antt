-- What it takes to give one drive two volumes for the same read.
use Rattle.std.specs.Prelude.{ℕ, ◌+◌, ◌<◌, ◌≤◌, ◌≡◌, ◌⊎◌, List, length, get_or}
use Rattle.layout.specs.Spots.{spot_at}
use Rattle.answers.specs.Answer as A
use Rattle.keys.specs.Tags.{covered}
use Rattle.nodes.specs.Alike.{Alike}
use Rattle.drive.specs.declared.Drive.{Drive}
use Rattle.drive.specs.Drive.{shape_of}
use Rattle.nuggets.specs.Nugget.{lock_for, stored_in}
use Rattle.reading.specs.Read.{read_answer, read_buffer}
use Rattle.twins.specs.Collision.{Collision}
use Rattle.detection.specs.Right.{SaysPresent, tag_for}

-- Two volumes that one drive accepts for the same read have the same records and tags of the nuggets touched, or a collision is shown.
abbrev pub OneDriveOneTree : Type 0
OneDriveOneTree =
    (d : Drive) (v w : List ℕ) (o len a : ℕ) → read_answer d v o len ≡ A.Accepted → read_answer d w o len ≡ A.Accepted → o ≤ a → a < o + len
    → let n = (spot_at (shape_of d) a).nugget in
    Alike (shape_of d) v w n ⊎ Collision (shape_of d) v w n

-- With the same records and tags, the stored bytes of a present flake that is read have one tag, under one key, in both volumes.
abbrev pub OneDriveOneTag : Type 0
OneDriveOneTag =
    (d : Drive) (v w : List ℕ) (o len a : ℕ) → read_answer d v o len ≡ A.Accepted → read_answer d w o len ≡ A.Accepted → o ≤ a → a < o + len
    → let s = shape_of d in
    let at = spot_at s a in
    let tagged = tag_for d v at.nugget at.flake in
    Alike s v w at.nugget → SaysPresent d v at.nugget at.flake
    → tagged (stored_in s v at.nugget at.flake) ≡ tagged (stored_in s w at.nugget at.flake)

-- two stored flakes of which Poly1305 is given different bytes, under the same key, and gives the same tag
pub record Forgery (d : Drive) (v w : List ℕ) (n f : ℕ) : Type 0 where
  pub differ : (let given = covered (lock_for d v n) f in given (stored_in (shape_of d) v n f) ≡ given (stored_in (shape_of d) w n f) → ⊥)
  pub alike : tag_for d v n f (stored_in (shape_of d) v n f) ≡ tag_for d v n f (stored_in (shape_of d) w n f)

-- So the same read of the two volumes gives the same bytes, or a collision or a forgery is shown.
abbrev pub OneDriveOneRead : Type 0
OneDriveOneRead =
    (d : Drive) (v w : List ℕ) (o : ℕ) (buffer : List ℕ) (i : ℕ) → i < length buffer
    → read_answer d v o (length buffer) ≡ A.Accepted → read_answer d w o (length buffer) ≡ A.Accepted
    → let at = spot_at (shape_of d) (o + i) in
    (get_or (read_buffer d v o buffer) i 0 ≡ get_or (read_buffer d w o buffer) i 0)
    ⊎ (Collision (shape_of d) v w at.nugget ⊎ Forgery d v w at.nugget at.flake)
