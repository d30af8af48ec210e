-- Each answer is read back from its image.
use mathlib.Core.Path.{◌≡◌, refl, ap, ◌∙◌}
use Rattle.codec.specs.Row.{Values, AllFit}
use Rattle.answers.specs.Answer.{Answer}
use Rattle.answers.specs.declared.Refusal.TheVariants as R
use Rattle.std.specs.Prelude.{Ok, Err}
use Rattle.answers.specs.declared.Place.TheVariants as P
use Rattle.images.specs.Answers.{answer_row, answer_values, answer_image}
use Rattle.images.specs.Back.{altered_in, refusal_in, answer_in}
use Rattle.images.proofs.AnswerLaws.{answer_back}

-- the answer of the four numbers
abbrev of_row : Values answer_row → Answer
of_row r = refusal_in r.0 r.1.0 r.1.1.0 r.1.1.1.0

of_values : (a : Answer) → of_row (answer_values a) ≡ a
unfolding refusal_in altered_in
of_values (Ok x) = refl
of_values (Err R.Limits) = refl
of_values (Err R.Length) = refl
of_values (Err R.Mark) = refl
of_values (Err R.Seal) = refl
of_values (Err R.OldSecret) = refl
of_values (Err R.Counter) = refl
of_values (Err (R.Altered P.Head)) = refl
of_values (Err (R.Altered (P.Record n))) = refl
of_values (Err (R.Altered (P.Node i))) = refl
of_values (Err (R.Altered (P.Flake n f))) = refl
of_values (Err R.PastEnd) = refl
of_values (Err R.State) = refl
of_values (Err R.SameSecret) = refl
of_values (Err (R.Left k)) = refl
of_values (Err R.Moved) = refl
of_values (Err R.CounterTop) = refl
of_values (Err R.EpochTop) = refl
of_values (Err (R.Discarded n)) = refl

pub answer-read : (a : Answer) → AllFit answer_row (answer_values a) → answer_in (answer_image a) ≡ a
unfolding answer_in
answer-read a h = ap of_row (answer_back a h) ∙ of_values a
