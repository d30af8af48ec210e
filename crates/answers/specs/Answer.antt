-- The answers of a call by name: acceptance, or a refusal.
use Rattle.std.specs.Prelude.{ℕ, Result, Ok, Err}
use Rattle.answers.specs.declared.Place.{Place}
use Rattle.answers.specs.declared.Refusal.{Refusal}
use Rattle.answers.specs.declared.Refusal.TheVariants as R

abbrev pub Answer : Type 0
Answer = Result (Unit {0}) Refusal

abbrev pub Accepted : Answer
Accepted = Ok tt

abbrev pub Limits : Answer
Limits = Err R.Limits

abbrev pub Length : Answer
Length = Err R.Length

abbrev pub Mark : Answer
Mark = Err R.Mark

abbrev pub Seal : Answer
Seal = Err R.Seal

abbrev pub OldSecret : Answer
OldSecret = Err R.OldSecret

abbrev pub Counter : Answer
Counter = Err R.Counter

abbrev pub PastEnd : Answer
PastEnd = Err R.PastEnd

abbrev pub State : Answer
State = Err R.State

abbrev pub SameSecret : Answer
SameSecret = Err R.SameSecret

abbrev pub Moved : Answer
Moved = Err R.Moved

abbrev pub CounterTop : Answer
CounterTop = Err R.CounterTop

abbrev pub EpochTop : Answer
EpochTop = Err R.EpochTop

abbrev pub Altered : Place → Answer
Altered p = Err (R.Altered p)

abbrev pub Left : ℕ → Answer
Left k = Err (R.Left k)

abbrev pub Discarded : ℕ → Answer
Discarded n = Err (R.Discarded n)
