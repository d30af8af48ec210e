-- "What a host needs beside the calls": the lines that it prints, each with its newline.
use Rattle.std.specs.Prelude.{ℕ, ◌≡◌, List, [], ltb}
use Rattle.base.specs.Pick.{pick}
use Rattle.answers.specs.Answer.{Answer}
use Rattle.answers.specs.Answer as A
use Rattle.answers.specs.Numbers.{accepts}
use Rattle.answers.specs.Stages.{and_then}
use Rattle.line.specs.Lines.{Put, refusal_line}
use Rattle.records.specs.Record.{record_of}
use Rattle.tree.specs.Path.{path_of}
use Rattle.drive.specs.declared.Drive.{Drive}
use Rattle.drive.specs.Drive.{shape_of, gauge_of}
use Rattle.drive.specs.Opening.{opening_of}
use Rattle.pages.specs.Page.{nugget_line}
use Rattle.telling.specs.declared.Told.{Told}

-- "of an image whose number is 0 or no answer's, [..] it stores nothing"
unfoldable pub refusal_text : Answer → List ℕ
refusal_text a = pick (accepts a) [] (refusal_line a)

-- this text stands in the first bytes, and the answer is told beside it
pub record Telling (a : Answer) (text s : List ℕ) (t : Told) (last : List ℕ) : Type 0 where
  pub answers : t.answer ≡ a
  pub put : Put s 0 text t.count last

-- "1, 2, 7 head, 8, 7 path, then the line"
unfoldable pub nugget_answer : Drive → List ℕ → ℕ → Answer
nugget_answer d v n = and_then (opening_of d v) (pick (ltb n d.n) (path_of (shape_of d) (gauge_of d) v n) A.PastEnd)

-- "refused, the refusal's"
unfoldable pub nugget_told : Drive → List ℕ → ℕ → List ℕ
nugget_told d v n = pick (accepts (nugget_answer d v n)) (nugget_line d (record_of (shape_of d) v n) n) (refusal_line (nugget_answer d v n))
