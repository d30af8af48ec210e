-- An answer's image has 16 bytes, and its four numbers are read back.
use Prim.{tt}
use mathlib.Core.Path.{◌≡◌}
use lib.ListN.{length}
use Rattle.codec.specs.Row.{◌&◌, AllFit, row_in}
use Rattle.codec.proofs.RowLaws.{length-row, row_only}
use Rattle.answers.specs.Answer.{Answer}
use Rattle.images.specs.Answers.{answer_row, answer_values, answer_image}

pub length-answer : (a : Answer) → length (answer_image a) ≡ 16
unfolding answer_image
length-answer a = length-row answer_row (answer_values a) (tt & tt & tt & tt & tt)

pub answer_back : (a : Answer) → AllFit answer_row (answer_values a) → row_in answer_row 0 0 (answer_image a) ≡ answer_values a
unfolding answer_image
answer_back a h = row_only answer_row (answer_values a) h
