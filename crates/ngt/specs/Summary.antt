-- What the functions of document 02's Item 9 answer, and what each lent byte holds at the end.
use Rattle.std.specs.Prelude.{◌≡◌, List, ◌++◌, ℕ}
use Rattle.words.specs.Le.{le}
use Rattle.answers.specs.Answer.{Answer}
use Rattle.reports.specs.declared.told.Report.{Report}
use Rattle.ngt.specs.Calls.{Tells}

-- "N, moved, left, flakes, share, done, 4 bytes each"
abbrev pub tally_image : Report → List ℕ
tally_image r = le 4 r.n ++ (le 4 r.moved ++ (le 4 r.left ++ (le 4 r.flakes ++ (le 4 r.share ++ le 4 r.done))))

-- a report, the full one or the top entry's
pub record Tallied (r : Report) (number : ℕ) (report answer : List ℕ) : Type 0 where
  pub tells : Tells r.answer number answer
  pub numbers : report ≡ tally_image r

-- a summary built or renewed, where `after` is what it holds by the call's own definition
pub record Summed (a : Answer) (after : List ℕ) (number : ℕ) (sum answer : List ℕ) : Type 0 where
  pub tells : Tells a number answer
  pub bytes : sum ≡ after
