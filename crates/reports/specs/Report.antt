-- Document 01: "Report gives N, nuggets moved (epoch equal to the head's), left, flakes present, and share"; the share is
-- document 02's, Item 1.
use Rattle.std.specs.Prelude.{ℕ, ◌-◌, List}
use Rattle.base.specs.Pick.{pick}
use Rattle.answers.specs.Answer.{Answer}
use Rattle.answers.specs.Numbers.{accepts}
use Rattle.tree.specs.Whole.{whole_of}
use Rattle.drive.specs.declared.Drive.{Drive}
use Rattle.drive.specs.Drive.{shape_of, gauge_of}
use Rattle.drive.specs.Opening.{opening_of}
use Rattle.reports.specs.declared.told.Report.{Report}
use Rattle.reports.specs.declared.told.Counts.{Counts}
use Rattle.reports.specs.Counts.{counts_in, share_of}

-- "All others start 1, 2, 7 head." "Report: 7 whole."
unfoldable pub report_answer : Drive → List ℕ → Answer
report_answer d v = pick (accepts (opening_of d v)) (whole_of (shape_of d) (gauge_of d) v) (opening_of d v)

-- the report of n nuggets with these counts
abbrev pub counted : Answer → ℕ → Counts → Report
counted a n c = record { answer = a; n = n; moved = c.moved; left = n - c.moved; flakes = c.flakes; share = share_of n c; done = c.done }

-- a refusal has no numbers
abbrev pub refused : Answer → Report
refused a = record { answer = a; n = 0; moved = 0; left = 0; flakes = 0; share = 0; done = 0 }

-- the report under an answer
abbrev pub report_at : Answer → Drive → List ℕ → Report
report_at a d v = pick (accepts a) (counted a d.n (counts_in (shape_of d) d.p d.epoch v d.n)) (refused a)

unfoldable pub report_of : Drive → List ℕ → Report
report_of d v = report_at (report_answer d v) d v
