-- The theorems over histories don't speak of nothing: there is a history in which every kind of call is accepted. And a
-- refused mount leaves nothing to go on with.
use Rattle.std.specs.Prelude.{ℕ, ◌≡◌, Bool, true, false, ◌⊎◌, List, [], ◌∷◌, replicate}
use Rattle.answers.specs.Answer as A
use Rattle.layout.specs.Shape.{shape_as}
use Rattle.drive.specs.Drive.{shape_of, blank_drive}
use Rattle.opening.specs.Mount.{mount_answer}
use Rattle.nuggets.specs.Nugget.{stored_in}
use Rattle.reading.specs.Read.{read_buffer}
use Rattle.reports.specs.Stored.{stored_flake}
use Rattle.history.specs.World.{World, Call, mount, write, begin, sweep, finish, discard, asks, read, report, stored}
use Rattle.history.specs.Step.{answer_to}
use Rattle.history.specs.History.{Start, begun, history}
use Rattle.history.specs.Answers.{nuggets_left, all_accepted, checked_text, KeyCollision, report_on}

-- a secret of 32 equal bytes
abbrev pub secret_of : ℕ → List ℕ
secret_of b = replicate 32 b

-- three bytes written over the end of a flake, the secret changed, the second flake discarded, with a mount after each change;
-- anything is brought as old secret of a steady drive
abbrev pub example : List Call
example =
    write 63 (1 ∷ 2 ∷ 3 ∷ [])
    ∷ mount (secret_of 9)
    ∷ begin (secret_of 7)
    ∷ mount (secret_of 9)
    ∷ sweep 0
    ∷ mount (secret_of 9)
    ∷ finish
    ∷ mount (secret_of 9)
    ∷ asks report
    ∷ asks (stored 0 1)
    ∷ discard 0 1 1
    ∷ mount (secret_of 9)
    ∷ []

-- There is a drive of version 2, one nugget with two flakes, on which all of them are accepted, and so is a read that then gives
-- the byte of the first flake, and zeros for those of the second.
abbrev pub Example : Type 0
Example =
    (start : Start) × (start.shape ≡ shape_as 2 0 1 2 64)
    × (all_accepted (begun start) example ≡ true)
    × (let w = history start example in
    (answer_to w (asks (read 63 (9 ∷ 9 ∷ 9 ∷ []))) ≡ A.Accepted) × (read_buffer w.drive w.vol 63 (9 ∷ 9 ∷ 9 ∷ []) ≡ 1 ∷ 0 ∷ 0 ∷ []))

-- A share of 100.00 isn't leave to destroy the old secret: there is a history, all its calls accepted, after which the report
-- says 100.00 with nothing left, and a mount with another old secret is refused with 5, or the two are a collision.
abbrev pub FullIsNotFree : Type 0
FullIsNotFree =
    (start : Start) × (calls : List Call) × (all_accepted (begun start) calls ≡ true)
    × (let w = history start calls in
    ((report_on w).share ≡ 10000) × (nuggets_left w ≡ 0)
    × ((other : List ℕ) → (w.old ≡ other → ⊥)
    → (mount_answer w.vol w.secret other w.outside ≡ A.OldSecret) ⊎ KeyCollision w.old other (checked_text w)))

-- "A refused format or mount returns the blank drive: every field zero, steady; every later call on it gives 1." A mount isn't made on a drive.
abbrev pub takes_drive : Call → Bool
takes_drive (mount any) = false
takes_drive (write o bytes) = true
takes_drive (begin secret) = true
takes_drive (sweep n) = true
takes_drive finish = true
takes_drive (discard n first count) = true
takes_drive (asks q) = true

abbrev pub BlankRefused : Type 0
BlankRefused = (w : World) (c : Call) → w.drive ≡ blank_drive → takes_drive c ≡ true → answer_to w c ≡ A.Limits

-- "Stored flake shows a backup tool the stored bytes as that part of the volume itself": those that UnderLastPad speaks of.
abbrev pub StoredShows : Type 0
StoredShows =
    (w : World) (n f : ℕ) → answer_to w (asks (stored n f)) ≡ A.Accepted → stored_flake w.drive w.vol n f ≡ stored_in (shape_of w.drive) w.vol n f
