-- Tests in the paper's order: the first refusal is the answer.
use Rattle.base.specs.Pick.{pick}
use Rattle.answers.specs.Answer.{Answer}
use Rattle.answers.specs.Numbers.{accepts}

-- a stage that accepts goes on to the next
unfoldable pub and_then : Answer → Answer → Answer
and_then a next = pick (accepts a) next a
