-- How long the lines can be, and what an accepted nugget's line stands on.
use mathlib.Core.Path.{◌≡◌, refl}
use mathlib.Core.Bool.{Bool, true, false}
use mathlib.Core.List.{List, []}
use Prim.Native.Nat.{ℕ, ◌<◌, ◌≤◌}
use native.Mathlib.Omega.{arith}
use lib.Dec.{ltb}
use lib.ListN.{length}
use Rattle.base.specs.Pick.{pick}
use Rattle.answers.specs.Answer.{Answer}
use Rattle.answers.specs.Numbers.{accepts}
use Rattle.answers.specs.Answer as A
use Rattle.answers.proofs.StageLaws.{both_stages, passed}
use borrow.Author.Tests.{ltb-true}
use Rattle.layout.specs.Shaped.{Shaped}
use Rattle.layout.proofs.Limits.{limits}
use Rattle.line.specs.Lines.{Put, refusal_line}
use Rattle.records.specs.Record.{record_of}
use Rattle.drive.specs.declared.Drive.{Drive}
use Rattle.drive.specs.Drive.{shape_of}
use Rattle.drive.specs.Opening.{opening_of}
use Rattle.drive.proofs.OpeningLaws.{opening_lent}
use Rattle.reports.specs.declared.told.Report.{Report}
use Rattle.sheets.specs.Sheet.{reported_line}
use Rattle.sheets.proofs.SheetLaws.{refusal_short, told-short}
use Rattle.pages.specs.Page.{nugget_line}
use Rattle.pages.proofs.PageLaws.{line-le}
use Rattle.telling.specs.Told.{refusal_text, nugget_answer, nugget_told}

pub text_le : (a : Answer) → length (refusal_text a) ≤ 106
unfolding refusal_text
text_le a = go (accepts a)
  where
    go : (b : Bool) → length (pick b [] (refusal_line a)) ≤ 106
    go true = omega arith
    go false = refusal_short a

pub text_reach : (a : Answer) {s x : List ℕ} {k : ℕ} → Put s 0 (refusal_text a) k x → k ≤ 106
text_reach a f = omega (arith, f.behind, text_le a)

pub sheet_reach : (r : Report) {s x : List ℕ} {k : ℕ} → Put s 0 (reported_line r) k x → k ≤ 106
sheet_reach r f = omega (arith, f.behind, told-short r)

-- the drive's shape, the volume's length, and the nugget one of the drive's
pub record Stands (d : Drive) (v : List ℕ) (n : ℕ) : Type 0 where
  pub shaped : Shaped (shape_of d) v
  pub inside : n < d.n

pub line_stands : (d : Drive) (v : List ℕ) (n : ℕ) → accepts (nugget_answer d v n) ≡ true → Stands d v n
unfolding nugget_answer
line_stands d v n h =
    let opened = both_stages (opening_of d v) _ h in
    let below = passed (ltb n d.n) _ A.PastEnd refl opened.1 in
    record { shaped = opening_lent d v opened.0; inside = ltb-true n d.n below.0 }

pub told-le : (d : Drive) (v : List ℕ) (n : ℕ) → length (nugget_told d v n) ≤ 300
unfolding nugget_told
told-le d v n = go (accepts (nugget_answer d v n)) (line_stands d v n)
  where
    go : (b : Bool) → (b ≡ true → Stands d v n) → length (pick b (nugget_line d (record_of (shape_of d) v n) n) (refusal_line (nugget_answer d v n))) ≤ 300
    go true s = line-le d (record_of (shape_of d) v n) n (limits (shape_of d) (s refl).shaped.limited).narrow
    go false s = omega (arith, refusal_short (nugget_answer d v n))

pub told_reach : (d : Drive) (v : List ℕ) (n : ℕ) {s x : List ℕ} {k : ℕ} → Put s 0 (nugget_told d v n) k x → k ≤ 300
told_reach d v n f = omega (arith, f.behind, told-le d v n)
