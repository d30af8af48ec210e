-- Document 01, "The sheet program": "It reads standard input: present secret, old secret, outside counter (8 bytes), then a
-- volume of at most 61,440 bytes. It mounts, reports, and prints one line."
use Rattle.std.specs.Prelude.{ℕ, Bool, List, leb, length, drop}
use Rattle.base.specs.Pick.{pick, both}
use Rattle.base.specs.Lists.{part}
use Rattle.words.specs.Le.{num}
use Rattle.answers.specs.Answer as A
use Rattle.answers.specs.Numbers.{accepts}
use Rattle.line.specs.Lines.{report_line, refusal_line}
use Rattle.drive.specs.declared.Done.{Done}
use Rattle.opening.specs.Mount.{mount_done}
use Rattle.reports.specs.declared.told.Report.{Report}
use Rattle.reports.specs.Report.{report_of}

-- "present secret"
abbrev pub present_in : List ℕ → List ℕ
present_in i = part 0 32 i

-- "old secret"
abbrev pub old_in : List ℕ → List ℕ
old_in i = part 32 32 i

-- "outside counter (8 bytes)"
abbrev pub outside_in : List ℕ → ℕ
outside_in i = num (part 64 8 i)

-- "then a volume"
abbrev pub volume_in : List ℕ → List ℕ
volume_in i = drop 72 i

-- not "under 72 or over 61,512 bytes"
unfoldable pub input_sized : List ℕ → Bool
input_sized i = both (leb 72 (length i)) (leb (length i) 61512)

-- the line of a report, accepted or refused
unfoldable pub reported_line : Report → List ℕ
reported_line r = pick (accepts r.answer) (report_line r.n r.moved r.left r.flakes r.share r.done) (refusal_line r.answer)

-- the line after a mount: a refusal's, or the report's
unfoldable pub mounted_text : Done → List ℕ → List ℕ
mounted_text m v = pick (accepts m.answer) (reported_line (report_of m.drive v)) (refusal_line m.answer)

-- "It mounts"
unfoldable pub mounted_by : List ℕ → Done
mounted_by i = mount_done (volume_in i) (present_in i) (old_in i) (outside_in i)

-- the line for any input: "Input under 72 or over 61,512 bytes prints `refused=2 class=form`."
unfoldable pub sheet_line : List ℕ → List ℕ
sheet_line i = pick (input_sized i) (mounted_text (mounted_by i) (volume_in i)) (refusal_line A.Length)
