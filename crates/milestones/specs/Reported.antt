-- A drive's report as a line of the fleet's input.
use Rattle.std.specs.Prelude.{ℕ, ◌≡◌, List, [], ◌∷◌, ◌++◌}
use Rattle.words.specs.Le.{Bytes}
use Rattle.answers.specs.Answer as A
use Rattle.drive.specs.declared.Drive.{Drive}
use Rattle.reports.specs.declared.told.Report.{Report}
use Rattle.reports.specs.Report.{report_answer, report_of}
use Rattle.line.specs.Lines.{report_text, report_line}
use Rattle.standings.specs.declared.Standing.{Standing}

-- how a drive stands by its report
abbrev pub standing_of : Report → Standing
standing_of r = record { n = r.n; counts = record { moved = r.moved; flakes = r.flakes; done = r.done } }

-- its sheet line, without its newline and with it
abbrev pub told_text : Report → List ℕ
told_text r = report_text r.n r.moved r.left r.flakes r.share r.done

abbrev pub told_line : Report → List ℕ
told_line r = report_line r.n r.moved r.left r.flakes r.share r.done

-- a drive with its volume, of which a report is accepted
pub record Reporting : Type 0 where
  pub drive : Drive
  pub volume : List ℕ
  pub accepted : report_answer drive volume ≡ A.Accepted

abbrev pub told_by : Reporting → Report
told_by x = report_of x.drive x.volume

-- their lines one after the other: what the fleet's program is given
unfoldable pub sheets_of : List Reporting → List ℕ
sheets_of [] = []
sheets_of (x ∷ xs) = told_line (told_by x) ++ sheets_of xs

-- "that no volume within the limits could give": some drive with its volume of bytes gives it
abbrev pub Given : Standing → Type 0
Given t = (x : Reporting) × Bytes x.volume × (standing_of (told_by x) ≡ t)
