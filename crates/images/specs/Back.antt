-- "The refusal's line of an answer's image": the refusal that an image tells. It "looks at kind and values for number 7 alone",
-- 11's count and 16's nugget apart, which no line shows.
use Rattle.std.specs.Prelude.{ℕ, List, eqb}
use Rattle.base.specs.Pick.{pick}
use Rattle.base.specs.Lists.{part}
use Rattle.words.specs.Le.{num}
use Rattle.answers.specs.Answer.{Answer}
use Rattle.answers.specs.Answer as A
use Rattle.answers.specs.declared.Place.TheVariants as P

-- "7 with a kind that isn't 1 to 4" tells no refusal
unfoldable pub altered_in : ℕ → ℕ → ℕ → Answer
altered_in kind a b =
    pick (eqb kind 1) (A.Altered P.Head)
    (pick (eqb kind 2) (A.Altered (P.Record a))
    (pick (eqb kind 3) (A.Altered (P.Node a)) (pick (eqb kind 4) (A.Altered (P.Flake a b)) A.Accepted)))

-- a number that is no refusal's tells none
unfoldable pub refusal_in : ℕ → ℕ → ℕ → ℕ → Answer
refusal_in n kind a b =
    pick (eqb n 1) A.Limits
    (pick (eqb n 2) A.Length
    (pick (eqb n 3) A.Mark
    (pick (eqb n 4) A.Seal
    (pick (eqb n 5) A.OldSecret
    (pick (eqb n 6) A.Counter
    (pick (eqb n 7) (altered_in kind a b)
    (pick (eqb n 8) A.PastEnd
    (pick (eqb n 9) A.State
    (pick (eqb n 10) A.SameSecret
    (pick (eqb n 11) (A.Left a)
    (pick (eqb n 12) A.Moved
    (pick (eqb n 13) A.CounterTop (pick (eqb n 15) A.EpochTop (pick (eqb n 16) (A.Discarded a) A.Accepted))))))))))))))

-- the four numbers of 16 bytes, read as the image has them
unfoldable pub answer_in : List ℕ → Answer
answer_in i = refusal_in (num (part 0 4 i)) (num (part 4 4 i)) (num (part 8 4 i)) (num (part 12 4 i))
