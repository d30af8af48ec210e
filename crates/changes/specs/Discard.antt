-- Document 02, Item 4: "Discard takes a flake range of one nugget and clears held bits only; the pad stays spent, so the next write
-- there rekeys." "A discard that clears nothing adds nothing to the counter."
use Rattle.std.specs.Prelude.{ℕ, ◌+◌, Bool, not, List, eqb, leb, ltb}
use Rattle.base.specs.Pick.{pick, both}
use Rattle.layout.specs.declared.Shape.{Shape}
use Rattle.layout.specs.Shape.{is_one}
use Rattle.layout.specs.Spots.{offset_at}
use Rattle.answers.specs.Answer.{Answer}
use Rattle.answers.specs.Answer as A
use Rattle.answers.specs.Numbers.{accepts}
use Rattle.answers.specs.Stages.{and_then}
use Rattle.records.specs.declared.Way.{Way}
use Rattle.records.specs.declared.Way.TheVariants.{Clear}
use Rattle.records.specs.Journal.{share_none, flake_range}
use Rattle.records.specs.Record.{record_of}
use Rattle.drive.specs.declared.Drive.{Drive}
use Rattle.drive.specs.declared.Done.{Done}
use Rattle.drive.specs.Drive.{shape_of, counter_top}
use Rattle.drive.specs.Opening.{opening_of}
use Rattle.nuggets.specs.Nugget.{contents_of}
use Rattle.nuggets.specs.Tests.{path_for}
use Rattle.changes.specs.Change.{only_at, worked, advanced, settled}

-- 8: "a nugget or range past the end"; the range is the flakes from the first on, as many as the count
unfoldable pub range_fits : Shape → ℕ → ℕ → ℕ → Bool
range_fits s n first count = both (ltb n s.n) (leb (first + count) s.p)

-- nothing is cleared: no flake of the range is held
abbrev pub clears_none : Drive → List ℕ → ℕ → ℕ → ℕ → Bool
clears_none d v n first count = share_none (record_of (shape_of d) v n).held (flake_range first count)

-- "13 unless nothing is cleared"
abbrev pub clear_room : Drive → List ℕ → ℕ → ℕ → ℕ → Answer
clear_room d v n first count = pick (clears_none d v n first count) A.Accepted (pick (eqb d.counter counter_top) A.CounterTop A.Accepted)

-- "7 path, 13 unless nothing is cleared"
unfoldable pub clear_tests : Drive → List ℕ → ℕ → ℕ → ℕ → Answer
clear_tests d v n first count = and_then (path_for d v n) (clear_room d v n first count)

-- "Discard, after 7 head: 9 on version 1, 8 for a nugget or range past the end, 7 path, 13 unless nothing is cleared."
unfoldable pub discard_answer : Drive → List ℕ → ℕ → ℕ → ℕ → Answer
discard_answer d v n first count =
    and_then (opening_of d v)
    (pick (is_one (shape_of d)) A.State
    (pick (range_fits (shape_of d) n first count) (clear_tests d v n first count) A.PastEnd))

-- accepted, with something to clear
abbrev pub clears : Drive → List ℕ → ℕ → ℕ → ℕ → Bool
clears d v n first count = both (accepts (discard_answer d v n first count)) (not (clears_none d v n first count))

-- "clears held bits only", of one nugget
abbrev pub discard_ways : ℕ → ℕ → ℕ → ℕ → Way
discard_ways n first count = only_at n (Clear (flake_range first count))

-- nothing is enciphered
abbrev pub discard_work : Drive → List ℕ → ℕ → ℕ → ℕ → List ℕ
discard_work d v n first count = worked d v (discard_ways n first count) (contents_of d v)

abbrev pub discarded_drive : Drive → List ℕ → ℕ → ℕ → ℕ → Drive
discarded_drive d v n first count = advanced d (discard_work d v n first count)

unfoldable pub discard_done : Drive → List ℕ → ℕ → ℕ → ℕ → Done
discard_done d v n first count =
    record { answer = discard_answer d v n first count; drive = pick (clears d v n first count) (discarded_drive d v n first count) d }

unfoldable pub discard_volume : Drive → List ℕ → ℕ → ℕ → ℕ → List ℕ
discard_volume d v n first count =
    pick (clears d v n first count) (settled (discarded_drive d v n first count) (discard_work d v n first count)) v

-- offset a lies in the range
unfoldable pub discards_at : Shape → ℕ → ℕ → ℕ → ℕ → Bool
discards_at s n first count a = both (leb (offset_at s n first 0) a) (ltb a (offset_at s n (first + count) 0))
