-- The change of the master secret: begin, sweep, finish.
use Rattle.std.specs.Prelude.{ℕ, ◌+◌, ◌-◌, List, [], eqb, ltb}
use Rattle.base.specs.Pick.{pick}
use Rattle.base.specs.Lists.{same}
use Rattle.answers.specs.Answer.{Answer}
use Rattle.answers.specs.Answer as A
use Rattle.answers.specs.Numbers.{accepts}
use Rattle.answers.specs.Stages.{and_then}
use Rattle.records.specs.declared.Way.{Way}
use Rattle.records.specs.Rule.{sweep_way}
use Rattle.records.specs.Listing.{Entry}
use Rattle.tree.specs.Whole.{whole_of}
use Rattle.drive.specs.declared.Drive.{Drive}
use Rattle.drive.specs.declared.Done.{Done}
use Rattle.drive.specs.declared.State.TheVariants.{Steady, Changing}
use Rattle.drive.specs.Drive.{shape_of, gauge_of, is_changing, headed, zeros, counter_top}
use Rattle.drive.specs.Opening.{opening_of}
use Rattle.nuggets.specs.Nugget.{contents_of}
use Rattle.nuggets.specs.Tests.{path_for, flakes_of}
use Rattle.reports.specs.Counts.{moved_in}
use Rattle.changes.specs.Change.{only_at, pads_for, worked, advanced, settled}
use Rattle.records.specs.Record.{record_of}

-- "Epoch: 1 to 65,535"
abbrev pub epoch_top : ℕ
epoch_top = 65535

-- "Begin: 9, 10, 15, 13."
unfoldable pub begin_tests : Drive → List ℕ → Answer
begin_tests d secret =
    pick (is_changing d.state) A.State
    (pick (same secret d.present) A.SameSecret
    (pick (eqb d.epoch epoch_top) A.EpochTop
    (pick (eqb d.counter counter_top) A.CounterTop A.Accepted)))

-- "All others start 1, 2, 7 head."
unfoldable pub begin_answer : Drive → List ℕ → List ℕ → Answer
begin_answer d v secret = and_then (opening_of d v) (begin_tests d secret)

-- "Begin takes a new secret: state changing, epoch plus 1, the old secret kept."
unfoldable pub begun_drive : Drive → List ℕ → Drive
begun_drive d secret = headed d (Changing d.epoch) (d.epoch + 1) (d.counter + 1) d.node secret d.present

unfoldable pub begin_done : Drive → List ℕ → List ℕ → Done
begin_done d v secret =
    let a = begin_answer d v secret in
    record { answer = a; drive = pick (accepts a) (begun_drive d secret) d }

unfoldable pub begin_volume : Drive → List ℕ → List ℕ → List ℕ
begin_volume d v secret = pick (accepts (begin_answer d v secret)) (settled (begun_drive d secret) v) v

-- "12, 13, [..] 7 flakes"
unfoldable pub move_tests : Drive → List ℕ → ℕ → Answer
move_tests d v n =
    pick (eqb (record_of (shape_of d) v n).epoch d.epoch) A.Moved
    (pick (eqb d.counter counter_top) A.CounterTop (flakes_of d v n (record_of (shape_of d) v n).held))

-- "7 path", and those
unfoldable pub nugget_tests : Drive → List ℕ → ℕ → Answer
nugget_tests d v n = and_then (path_for d v n) (move_tests d v n)

-- "Sweep: 9, 8, 7 path, 12, 13, [..] 7 flakes."
unfoldable pub sweep_answer : Drive → List ℕ → ℕ → Answer
sweep_answer d v n =
    and_then (opening_of d v)
    (pick (is_changing d.state) (pick (ltb n d.n) (nugget_tests d v n) A.PastEnd) A.State)

-- "Sweep takes a nugget and rekeys it with T empty.": the way of each nugget
abbrev pub sweep_ways : ℕ → ℕ → Way
sweep_ways n = only_at n sweep_way

-- each flake keeps its contents
abbrev pub sweep_work : Drive → List ℕ → ℕ → List ℕ
sweep_work d v n = worked d v (sweep_ways n) (contents_of d v)

abbrev pub swept_drive : Drive → List ℕ → ℕ → Drive
swept_drive d v n = advanced d (sweep_work d v n)

unfoldable pub sweep_done : Drive → List ℕ → ℕ → Done
sweep_done d v n =
    let a = sweep_answer d v n in
    record { answer = a; drive = pick (accepts a) (swept_drive d v n) d }

unfoldable pub sweep_volume : Drive → List ℕ → ℕ → List ℕ
sweep_volume d v n = pick (accepts (sweep_answer d v n)) (settled (swept_drive d v n) (sweep_work d v n)) v

unfoldable pub sweep_pads : Drive → List ℕ → ℕ → List Entry
sweep_pads d v n = pick (accepts (sweep_answer d v n)) (pads_for d v (sweep_ways n)) []

-- 11: "finish with nuggets left; carries how many"
abbrev pub left_in : Drive → List ℕ → ℕ
left_in d v = d.n - moved_in (shape_of d) d.epoch v d.n

-- "7 whole, 11, 13"
unfoldable pub finish_tests : Drive → List ℕ → Answer
finish_tests d v =
    and_then (whole_of (shape_of d) (gauge_of d) v)
    (pick (ltb 0 (left_in d v)) (A.Left (left_in d v))
    (pick (eqb d.counter counter_top) A.CounterTop A.Accepted))

-- "Finish: 9, 7 whole, 11, 13."
unfoldable pub finish_answer : Drive → List ℕ → Answer
finish_answer d v = and_then (opening_of d v) (pick (is_changing d.state) (finish_tests d v) A.State)

-- "Finish makes the state steady and zeroes the check."
unfoldable pub finished_drive : Drive → Drive
finished_drive d = headed d Steady d.epoch (d.counter + 1) d.node d.present (zeros 32)

unfoldable pub finish_done : Drive → List ℕ → Done
finish_done d v =
    let a = finish_answer d v in
    record { answer = a; drive = pick (accepts a) (finished_drive d) d }

unfoldable pub finish_volume : Drive → List ℕ → List ℕ
finish_volume d v = pick (accepts (finish_answer d v)) (settled (finished_drive d) v) v
