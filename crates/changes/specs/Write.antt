-- Document 01, "Write. For each nugget let T be the flakes touched and J its journal."
use Rattle.std.specs.Prelude.{ℕ, Bool, List, [], eqb, ltb, length}
use Rattle.base.specs.Pick.{pick, both}
use Rattle.answers.specs.Answer.{Answer}
use Rattle.answers.specs.Answer as A
use Rattle.answers.specs.Numbers.{accepts}
use Rattle.answers.specs.Stages.{and_then}
use Rattle.records.specs.declared.Way.{Way}
use Rattle.records.specs.Rule.{way_of}
use Rattle.records.specs.Listing.{Entry}
use Rattle.drive.specs.declared.Drive.{Drive}
use Rattle.drive.specs.declared.Done.{Done}
use Rattle.drive.specs.Drive.{shape_of, counter_top}
use Rattle.drive.specs.Opening.{opening_of}
use Rattle.nuggets.specs.Nugget.{contents_of}
use Rattle.nuggets.specs.Touched.{touched_of, fits_in}
use Rattle.changes.specs.Laid.{written}
use Rattle.changes.specs.Change.{tested_to, pads_for, worked, advanced, settled}
use Rattle.records.specs.Record.{record_of}

-- the way of each nugget under a write of len bytes from offset o on
abbrev pub write_way : Drive → List ℕ → ℕ → ℕ → ℕ → Way
write_way d v o len n = way_of (record_of (shape_of d) v n) (touched_of (shape_of d) o len n) d.epoch

-- "All others start 1, 2, 7 head. [..] Write: 8, 13 unless empty, nuggets."
unfoldable pub write_answer : Drive → List ℕ → ℕ → ℕ → Answer
write_answer d v o len =
    and_then (opening_of d v)
    (pick (fits_in (shape_of d) o len)
    (pick (eqb len 0) A.Accepted
    (pick (eqb d.counter counter_top) A.CounterTop (tested_to d v (write_way d v o len) d.n)))
    A.PastEnd)

-- "An empty write still passes tests 1, 2, 7 head and 8, and returns the drive as given."
abbrev pub writes : Answer → List ℕ → Bool
writes a bytes = both (accepts a) (ltb 0 (length bytes))

-- "New bytes of a partly covered absent flake are zero elsewhere."
abbrev pub new_contents : Drive → List ℕ → ℕ → List ℕ → ℕ → ℕ → List ℕ
new_contents d v o bytes n f = written (shape_of d) o bytes n f (contents_of d v n f)

-- flakes, tags, records and tree after a write
abbrev pub write_work : Drive → List ℕ → ℕ → List ℕ → List ℕ
write_work d v o bytes = worked d v (write_way d v o (length bytes)) (new_contents d v o bytes)

abbrev pub written_drive : Drive → List ℕ → ℕ → List ℕ → Drive
written_drive d v o bytes = advanced d (write_work d v o bytes)

-- what is handed back, what the volume holds, and what is listed, by the answer: "A refusal stores nothing and returns the drive as given."
abbrev pub write_done_at : Answer → Drive → List ℕ → ℕ → List ℕ → Done
write_done_at a d v o bytes = record { answer = a; drive = pick (writes a bytes) (written_drive d v o bytes) d }

abbrev pub write_volume_at : Answer → Drive → List ℕ → ℕ → List ℕ → List ℕ
write_volume_at a d v o bytes = pick (writes a bytes) (settled (written_drive d v o bytes) (write_work d v o bytes)) v

unfoldable pub write_done : Drive → List ℕ → ℕ → List ℕ → Done
write_done d v o bytes = write_done_at (write_answer d v o (length bytes)) d v o bytes

unfoldable pub write_volume : Drive → List ℕ → ℕ → List ℕ → List ℕ
write_volume d v o bytes = write_volume_at (write_answer d v o (length bytes)) d v o bytes

unfoldable pub write_pads : Drive → List ℕ → ℕ → List ℕ → List Entry
write_pads d v o bytes =
    pick (writes (write_answer d v o (length bytes)) bytes) (pads_for d v (write_way d v o (length bytes))) []
