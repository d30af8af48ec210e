-- All lines taken, or the number of the first that isn't.
use Rattle.std.specs.Prelude.{ℕ, Result, Ok, Err}
use Rattle.totals.specs.declared.Fleet.{Fleet}
use Rattle.fleets.specs.declared.Open as O

abbrev pub Gathered : Type 0
Gathered = Result Fleet O.Open

abbrev pub Whole : Fleet → Gathered
Whole f = Ok f

abbrev pub Open : ℕ → Gathered
Open k = Err (record { line = k })
