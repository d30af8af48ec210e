-- "a line [..] that no volume within the limits could give": a line is taken exactly if some volume gives it.
use mathlib.Core.Path.{◌≡◌, refl, ap, ◌∙◌}
use mathlib.Core.Bool.{true}
use mathlib.Core.List.{List}
use Prim.Native.Nat.{ℕ, zero, suc, ◌<◌, ◌≤◌}
use native.Mathlib.Omega.{arith}
use Rattle.words.specs.Le.{Bytes}
use Rattle.answers.specs.Answer as A
use Rattle.answers.specs.Numbers.{accepts}
use Rattle.records.specs.Record.{record_of, against, well_formed}
use Rattle.layout.specs.declared.Shape.{Shape}
use Rattle.reports.specs.Counts.{counts_in}
use Rattle.reports.specs.Report.{report_answer, report_of}
use Rattle.reports.proofs.ReportLaws.{report-accepted}
use Rattle.standings.specs.declared.Standing.{Standing}
use Rattle.standings.specs.Standing.{standing_text, standing_in, taken}
use Rattle.standings.proofs.StandingLaws.{Possible}
use Rattle.standings.proofs.TakenLaws.{taken-possible}
use Rattle.milestones.specs.Reported.{standing_of, told_text, Reporting, told_by, Given}
use Rattle.milestones.specs.Spread.{record_for, counts_for, wide_shape, drive_over, volume_over}
use Rattle.milestones.proofs.Taken.{line_taken}
use Rattle.milestones.proofs.Spread.{spread-formed, spread_codes, spread-counts}
use Rattle.milestones.proofs.Over.{over_record, over_reports}
use Rattle.milestones.proofs.ByteLaws.{over-bytes}

-- possible numbers are those of well-formed records
pub possible-records : (t : Standing) → Possible t → ((k : ℕ) → well_formed 64 (against 2 true 0) (record_for t k) ≡ true) × (counts_for t t.n ≡ t.counts)
possible-records t p = (spread-formed t, spread-counts t p)

-- a volume with those records counts them
counts_same : (s : Shape) (v : List ℕ) (t : Standing) (n k : ℕ) → ((j : ℕ) → j < n → record_of s v j ≡ record_for t j) → k ≤ n → counts_in s 64 2 v k ≡ counts_for t k
unfolding counts_in counts_for
counts_same s v t n zero e h = refl
counts_same s v t n (suc k) e h = rw (counts_same s v t n k e (omega arith), e k (omega arith))

-- what such a volume's report tells
told : (t : Standing) → (let g = record_for t in report_answer (drive_over t.n g) (volume_over t.n g) ≡ A.Accepted)
    → (let g = record_for t in counts_in (wide_shape t.n) 64 2 (volume_over t.n g) t.n ≡ t.counts)
    → (let g = record_for t in standing_of (report_of (drive_over t.n g) (volume_over t.n g)) ≡ t)
unfolding drive_over
told t e same =
    let g = record_for t in
    rw (report-accepted (drive_over t.n g) (volume_over t.n g) (ap accepts e)) (λ i. record { n = t.n; counts = same i })

-- and those of an accepted report of some drive and volume
pub possible-given : (t : Standing) → Possible t → Given t
possible-given t p =
    let g = record_for t in
    let reports = over_reports t.n p.some p.few g (spread_codes (wide_shape t.n) t) (spread-formed t) in
    let records = over_record t.n p.some p.few g (spread_codes (wide_shape t.n) t) (spread-formed t) in
    let same = counts_same (wide_shape t.n) (volume_over t.n g) t t.n t.n records (omega arith) ∙ spread-counts t p in
    (record { drive = drive_over t.n g; volume = volume_over t.n g; accepted = reports }, over-bytes t.n g, told t reports same)

-- an accepted report's line is the line of its numbers
written : (x : Reporting) → told_text (told_by x) ≡ standing_text (standing_of (told_by x))
unfolding standing_text
written x = rw (report-accepted x.drive x.volume (ap accepts x.accepted))

-- a line is taken: some drive's sheet prints it
pub taken-given : (l : List ℕ) → taken l ≡ true → (x : Reporting) × Bytes x.volume × (told_text (told_by x) ≡ l)
taken-given l h =
    let y = taken-possible l h in
    let (x, b, e) = possible-given (standing_in l) y.0 in
    (x, b, written x ∙ ap standing_text e ∙ y.1)

-- and each line that a drive's sheet prints is taken
pub given-taken : (l : List ℕ) (x : Reporting) → told_text (told_by x) ≡ l → taken l ≡ true
given-taken l x e = rw e at (line_taken x.drive x.volume x.accepted).0
