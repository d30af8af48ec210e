-- "A refusal stores nothing": a refused read leaves the buffer as it came. A range of no bytes tests no nugget.
use mathlib.Core.Path.{◌≡◌, refl, sym, ◌∙◌}
use mathlib.Core.Bool.{true, false}
use mathlib.Core.List.{List}
use Prim.Native.Nat.{ℕ}
use lib.ListN.{length}
use Rattle.answers.specs.Numbers.{accepts}
use Rattle.answers.specs.Answer as A
use Rattle.drive.specs.declared.Drive.{Drive}
use Rattle.drive.specs.Drive.{shape_of}
use Rattle.drive.specs.Opening.{opening_of}
use Rattle.reading.specs.Read.{read_answer, read_buffer}
use Rattle.reading.proofs.AnswerLaws.{met, left_alone, answer_tests, nuggets-none}
use Rattle.nuggets.specs.Touched.{fits_in}

pub read-refused : (d : Drive) (v : List ℕ) (o : ℕ) (buffer : List ℕ) → accepts (read_answer d v o (length buffer)) ≡ false → read_buffer d v o buffer ≡ buffer
read-refused d v o buffer h = sym (left_alone d v o buffer (read_answer d v o (length buffer)) h ∙ met d v o buffer refl)

pub read-empty : (d : Drive) (v : List ℕ) (o : ℕ) → accepts (opening_of d v) ≡ true → fits_in (shape_of d) o 0 ≡ true → read_answer d v o 0 ≡ A.Accepted
read-empty d v o h f = sym (answer_tests d v o 0 h refl f (nuggets-none d v o 0 refl))
