-- Moves in a drive's life: document 02, Item 6: "Moving is a change for demand 3 and lists no pad." A journey is a history with moves in
-- it. Each statement is proved, under the same name in small letters, in proofs/Journeys.antt.
use Rattle.std.specs.Prelude.{ℕ, ◌+◌, ◌<◌, ◌≡◌, Bool, true, false, List, [], ◌∷◌, eqb, length}
use Rattle.base.specs.Pick.{pick, either}
use Rattle.answers.specs.Answer.{Answer}
use Rattle.answers.specs.Answer as A
use Rattle.answers.specs.Numbers.{accepts}
use Rattle.layout.specs.declared.Shape.{Shape}
use Rattle.layout.specs.Parts.{length_of}
use Rattle.records.specs.Journal.{bit}
use Rattle.records.specs.Record.{record_of}
use Rattle.drive.specs.Drive.{shape_of}
use Rattle.opening.specs.Mount.{mount_answer, mount_done}
use Rattle.ledger.specs.Listing.{NoneTwice}
use Rattle.ledger.specs.Totals.{spent_in}
use Rattle.moving.specs.Carry.{entered, moved_volume}
use Rattle.moving.specs.Move.{last_tests, move_answer, move_done}
use Rattle.history.specs.World.{World, Call}
use Rattle.history.specs.Step.{old_for, answer_to, world_after, step, changes_by}
use Rattle.history.specs.History.{Start, begun}
use Rattle.history.specs.Answers.{◌unless◌else◌, due}
use Rattle.history.specs.Demands.{LastPad}

-- a call, or a move into a lent buffer
pub data Turn : Type 0 where
  does : Call → Turn
  up : List ℕ → Turn
  down : List ℕ → Turn

-- what the user holds after a move: the second buffer and its drive if it is accepted, and all as it was if not. Nothing is listed.
unfoldable pub move_world : ℕ → ℕ → World → List ℕ → World
move_world leave enter w second =
    let a = move_answer leave enter w.drive w.vol (length second) in
    world_after w (move_done leave enter w.drive w.vol (length second)).drive (pick (accepts a) (moved_volume enter w.drive w.vol) w.vol) [] w.secret w.old w.contents

unfoldable pub turn : World → Turn → World
turn w (does c) = step w c
turn w (up second) = move_world 1 2 w second
turn w (down second) = move_world 2 1 w second

-- one turn after another, after one format
unfoldable pub travel : World → List Turn → World
travel w [] = w
travel w (t ∷ turns) = travel (turn w t) turns

abbrev pub journey : Start → List Turn → World
journey start turns = travel (begun start) turns

-- N, P, F, cipher and salt
abbrev pub sizes_of : Shape → List ℕ → ℕ × (ℕ × (ℕ × (ℕ × List ℕ)))
sizes_of s salt = (s.n, (s.p, (s.f, (s.cipher, salt))))

-- They stay through every journey. The version is the last move's, or the format's.
abbrev pub JourneySizes : Type 0
JourneySizes =
    (start : Start) (turns : List Turn)
    → let d = (journey start turns).drive in
    sizes_of (shape_of d) d.salt ≡ sizes_of start.shape start.salt

-- the table: 2: the second buffer; 9: another version; 16: a spent flake that isn't held, the lowest nugget; 13: counter at its top
abbrev pub move_due : ℕ → ℕ → World → ℕ → Answer
move_due leave enter w len =
    A.Length unless eqb len (length_of (entered enter w.drive))
    else A.State unless eqb w.drive.version leave
    else last_tests w.drive w.vol

-- In every journey a move answers what the table says, and nothing else: 1 to 7 only by 2, and only for a buffer of another length.
abbrev pub MovesExactly : Type 0
MovesExactly =
    (start : Start) (turns : List Turn) (leave enter len : ℕ)
    → let w = journey start turns in
    move_answer leave enter w.drive w.vol len ≡ move_due leave enter w len

-- And each call what the table of histories says.
abbrev pub CallsExactly : Type 0
CallsExactly = (start : Start) (turns : List Turn) (c : Call) → answer_to (journey start turns) c ≡ due (journey start turns) c

-- A mount with the right secrets and outside counter is accepted and returns the very drive.
abbrev pub JourneyMounts : Type 0
JourneyMounts =
    (start : Start) (turns : List Turn) (any : List ℕ)
    → let w = journey start turns in
    mount_done w.vol w.secret (old_for w any) w.outside ≡ record { answer = A.Accepted; drive = w.drive }

-- "No entry comes twice.", and "Entries listed equal flakes now present [..] plus, for each keycount rise, its nugget's flakes present just
-- before."
abbrev pub JourneyLists : Type 0
JourneyLists =
    (start : Start) (turns : List Turn)
    → let w = journey start turns in
    NoneTwice w.listing × (length w.listing ≡ spent_in w.drive.p w.drive.n (record_of (shape_of w.drive) w.vol) + w.retired)

-- "Each present flake is its contents under the pad last listed for it."
abbrev pub JourneyUnderLastPad : Type 0
JourneyUnderLastPad =
    (start : Start) (turns : List Turn) (n f : ℕ)
    → let w = journey start turns in
    n < w.drive.n → f < w.drive.p → bit (record_of (shape_of w.drive) w.vol n).held f ≡ true → LastPad w n f

-- the turn is an accepted change
abbrev pub changes_turn : World → Turn → Bool
changes_turn w (does c) = changes_by w c
changes_turn w (up second) = accepts (move_answer 1 2 w.drive w.vol (length second))
changes_turn w (down second) = accepts (move_answer 2 1 w.drive w.vol (length second))

unfoldable pub among_turns : World → List Turn → Bool
among_turns w [] = false
among_turns w (t ∷ turns) = either (changes_turn w t) (among_turns (turn w t) turns)

-- "An image this drive left before its last accepted change never mounts against the present outside counter.": the volume that a move
-- left behind among them.
abbrev pub JourneyStale : Type 0
JourneyStale =
    (start : Start) (turns later : List Turn) (present old : List ℕ)
    → let w = journey start turns in
    among_turns w later ≡ true → mount_answer w.vol present old (travel w later).outside ≡ A.Accepted → ⊥
