-- Document 02, Item 9: "Refusals: 2 if the buffer isn't 12 × (2L - 1) bytes, after the volume's own 2; then 7 head, with which
-- the top report ends; building goes on with 7 whole, renewing a nugget's path with 8, 7 path."
use Rattle.std.specs.Prelude.{ℕ, List, [], ◌∷◌, length, ◌==◌, nat_lt}
use Rattle.base.specs.Pick.{pick}
use Rattle.answers.specs.Answer.{Answer}
use Rattle.answers.specs.Answer as A
use Rattle.answers.specs.Numbers.{accepts}
use Rattle.answers.specs.Stages.{and_then}
use Rattle.tree.specs.Path.{path_of}
use Rattle.tree.specs.Whole.{whole_of}
use Rattle.drive.specs.declared.Drive.{Drive}
use Rattle.drive.specs.Drive.{shape_of, gauge_of}
use Rattle.drive.specs.Opening.{measure_of, opening_of}
use Rattle.reports.specs.declared.told.Report.{Report}
use Rattle.reports.specs.Report.{counted, refused}
use Rattle.summaries.specs.Entries.{summary_length, entry_in, built, renewed, Belongs}

-- 1, 2, 2, 7 head, of a buffer of so many bytes
unfoldable pub top_answer : Drive → List ℕ → ℕ → Answer
top_answer d v len = and_then (measure_of d v) (pick (len == summary_length d.n) (opening_of d v) A.Length)

unfoldable pub build_answer : Drive → List ℕ → ℕ → Answer
build_answer d v len = and_then (top_answer d v len) (whole_of (shape_of d) (gauge_of d) v)

unfoldable pub renew_answer : Drive → List ℕ → ℕ → ℕ → Answer
renew_answer d v len n = and_then (top_answer d v len) (pick (nat_lt n d.n) (path_of (shape_of d) (gauge_of d) v n) A.PastEnd)

-- what each leaves in the buffer; "A refusal stores nothing"
unfoldable pub build_summary : Drive → List ℕ → List ℕ → List ℕ
build_summary d v b = pick (accepts (build_answer d v (length b))) (built (shape_of d) d.epoch v b) b

unfoldable pub renew_summary : Drive → List ℕ → List ℕ → ℕ → List ℕ
renew_summary d v b n = pick (accepts (renew_answer d v (length b) n)) (renewed (shape_of d) d.epoch v n b) b

-- these nuggets' paths renewed, call by call
unfoldable pub renew_each : Drive → List ℕ → List ℕ → List ℕ → List ℕ
renew_each d v [] b = b
renew_each d v (n ∷ ns) b = renew_each d v ns (renew_summary d v b n)

-- "A report from the top entry": over bytes that are no summary left is 0 where more have moved than there are
unfoldable pub top_report : Drive → List ℕ → List ℕ → Report
top_report d v b =
    let a = top_answer d v (length b) in
    pick (accepts a) (counted a d.n (entry_in b 1)) (refused a)

-- the summary that belongs to drive and volume
abbrev pub BelongsTo : Drive → List ℕ → List ℕ → Type 0
BelongsTo d v b = Belongs (shape_of d) d.epoch v b
