-- Document 02, Item 6: "Refusals: 1, 2, 7 head, 9 if not the version to leave, 7 whole, flakes 7 ascending, then 16 (class request)
-- when moving down and some nugget has a spent flake that isn't held (lowest reported), then 13; 2 also covers the second buffer's
-- length."
use Rattle.std.specs.Prelude.{ℕ, zero, suc, List, eqb, length}
use Rattle.base.specs.Pick.{pick}
use Rattle.answers.specs.Answer.{Answer}
use Rattle.answers.specs.Answer as A
use Rattle.answers.specs.Numbers.{accepts}
use Rattle.answers.specs.Stages.{and_then}
use Rattle.layout.specs.declared.Shape.{Shape}
use Rattle.layout.specs.Parts.{length_of}
use Rattle.records.specs.Record.{record_of}
use Rattle.tree.specs.Whole.{whole_of}
use Rattle.drive.specs.declared.Drive.{Drive}
use Rattle.drive.specs.declared.Done.{Done}
use Rattle.drive.specs.Drive.{shape_of, gauge_of, counter_top}
use Rattle.drive.specs.Opening.{measure_of, opening_of}
use Rattle.nuggets.specs.Tests.{flakes_of}
use Rattle.moving.specs.Carry.{entered, moved_drive, moved_volume}

-- "ascending": the tests of k nuggets from n on, and the first refusal
unfoldable pub ascending : (ℕ → Answer) → ℕ → ℕ → Answer
ascending test zero n = A.Accepted
ascending test (suc k) n = and_then (test n) (ascending test k (suc n))

-- "flakes 7": the held ones of a nugget
abbrev pub held_tests : Drive → List ℕ → ℕ → Answer
held_tests d v n = flakes_of d v n (record_of (shape_of d) v n).held

-- "some nugget has a spent flake that isn't held": every held flake is spent, so then the masks differ. In version 1 they are one mask.
abbrev pub kept_tests : Shape → List ℕ → ℕ → Answer
kept_tests s v n = pick (eqb (record_of s v n).spent (record_of s v n).held) A.Accepted (A.Discarded n)

-- "16 [..] (lowest reported), then 13"
unfoldable pub last_tests : Drive → List ℕ → Answer
last_tests d v =
    and_then (ascending (kept_tests (shape_of d) v) d.n 0) (pick (eqb d.counter counter_top) A.CounterTop A.Accepted)

-- "7 whole, flakes 7 ascending", and those
unfoldable pub parts_tests : Drive → List ℕ → Answer
parts_tests d v = and_then (whole_of (shape_of d) (gauge_of d) v) (and_then (ascending (held_tests d v) d.n 0) (last_tests d v))

-- "7 head, 9 if not the version to leave", and those
unfoldable pub leave_tests : ℕ → Drive → List ℕ → Answer
leave_tests leave d v = and_then (opening_of d v) (pick (eqb d.version leave) (parts_tests d v) A.State)

-- "1, 2", of the volume and then of a second buffer of so many bytes, by the version to enter; and those
unfoldable pub move_answer : ℕ → ℕ → Drive → List ℕ → ℕ → Answer
move_answer leave enter d v len =
    and_then (measure_of d v) (pick (eqb len (length_of (entered enter d))) (leave_tests leave d v) A.Length)

-- what is handed back, and what the second buffer holds: "A refusal stores nothing and returns the drive as given."
unfoldable pub move_done : ℕ → ℕ → Drive → List ℕ → ℕ → Done
move_done leave enter d v len =
    let a = move_answer leave enter d v len in
    record { answer = a; drive = pick (accepts a) (moved_drive enter d v) d }

unfoldable pub move_second : ℕ → ℕ → Drive → List ℕ → List ℕ → List ℕ
move_second leave enter d v w = pick (accepts (move_answer leave enter d v (length w))) (moved_volume enter d v) w

-- "Moving up copies a version 1 volume into a second lent buffer as version 2"
abbrev pub up_answer : Drive → List ℕ → ℕ → Answer
up_answer d v len = move_answer 1 2 d v len

abbrev pub up_done : Drive → List ℕ → ℕ → Done
up_done d v len = move_done 1 2 d v len

abbrev pub up_second : Drive → List ℕ → List ℕ → List ℕ
up_second d v w = move_second 1 2 d v w

-- "Moving down is the reverse."
abbrev pub down_answer : Drive → List ℕ → ℕ → Answer
down_answer d v len = move_answer 2 1 d v len

abbrev pub down_done : Drive → List ℕ → ℕ → Done
down_done d v len = move_done 2 1 d v len

abbrev pub down_second : Drive → List ℕ → List ℕ → List ℕ
down_second d v w = move_second 2 1 d v w
