-- What the lines beside the calls leave: the line, with an answer beside it.
use Rattle.std.specs.Prelude.{ℕ, ◌≡◌, List}
use Rattle.answers.specs.Answer.{Answer}
use Rattle.images.specs.Answers.{answer_image}
use Rattle.line.specs.Lines.{Put}

-- the line in the first bytes, "the answer's number is then in the answer's image alone", and "the bytes of `line` after the
-- line are left as given"
pub record Lined (a : Answer) (text s : List ℕ) (count : ℕ) (last answer : List ℕ) : Type 0 where
  pub put : Put s 0 text count last
  pub shown : answer ≡ answer_image a
