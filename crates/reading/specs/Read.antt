-- Document 01, "Read fills the buffer. Absent flakes give zeros." All others start 1, 2, 7 head; "Then read: 8, nuggets."
use Rattle.std.specs.Prelude.{ℕ, zero, suc, ◌+◌, ◌-◌, ◌/◌, ◌%◌, List, eqb, length, get_or}
use Rattle.base.specs.Pick.{pick}
use Rattle.base.specs.Lists.{tab}
use Rattle.layout.specs.declared.Shape.{Shape}
use Rattle.answers.specs.Answer.{Answer}
use Rattle.answers.specs.Answer as A
use Rattle.answers.specs.Numbers.{accepts}
use Rattle.drive.specs.declared.Drive.{Drive}
use Rattle.drive.specs.Drive.{shape_of}
use Rattle.drive.specs.Opening.{opening_of}
use Rattle.nuggets.specs.declared.Nugget.{Nugget}
use Rattle.nuggets.specs.Nugget.{contents_in, byte_of}
use Rattle.nuggets.specs.Tests.{nugget_read}
use Rattle.nuggets.specs.Touched.{touched_of, span_of, fits_in}

-- "ascending, each: path; [..] flakes": the k nuggets from n on
unfoldable pub nuggets_up : Drive → List ℕ → ℕ → ℕ → ℕ → ℕ → Answer
nuggets_up d v o len zero n = A.Accepted
nuggets_up d v o len (suc k) n =
    let a = nugget_read d v n (touched_of (shape_of d) o len n) in
    pick (accepts a) (nuggets_up d v o len k (suc n)) a

-- the nuggets that the range meets; a range of no bytes meets none
unfoldable pub nuggets_of : Drive → List ℕ → ℕ → ℕ → Answer
nuggets_of d v o len =
    let span = span_of (shape_of d) o len in
    pick (eqb len 0) A.Accepted (nuggets_up d v o len (span.end - span.first) span.first)

-- the answer of a read of len bytes from offset o on
unfoldable pub read_answer : Drive → List ℕ → ℕ → ℕ → Answer
read_answer d v o len =
    pick (accepts (opening_of d v)) (pick (fits_in (shape_of d) o len) (nuggets_of d v o len) A.PastEnd) (opening_of d v)

-- "Read fills the buffer."; "A refusal stores nothing".
abbrev pub buffer_at : Answer → Drive → List ℕ → ℕ → List ℕ → List ℕ
buffer_at a d v o buffer = pick (accepts a) (tab (length buffer) (λ i. byte_of d v (o + i))) buffer

unfoldable pub read_buffer : Drive → List ℕ → ℕ → List ℕ → List ℕ
read_buffer d v o buffer = buffer_at (read_answer d v o (length buffer)) d v o buffer

-- the byte at an offset into the contents of one nugget
unfoldable pub byte_in : Shape → List ℕ → Nugget → ℕ → ℕ
byte_in s v g a = get_or (contents_in s v g (a / s.f)) (a % s.f) 0
