-- What the stores of a write ask of keycounts.
use Rattle.std.specs.Prelude.{List, ℕ, ◌<◌}
use Rattle.records.specs.Rule.{CanRise}
use Rattle.drive.specs.Drive.{shape_of}
use Rattle.drive.specs.declared.Drive.{Drive}
use Rattle.changes.specs.Write.{write_way}
use Rattle.records.specs.Record.{record_of}

-- every nugget that is rekeyed has a next keycount
abbrev pub Room : Drive → List ℕ → ℕ → ℕ → Type 0
Room d v o len = (n : ℕ) → n < d.n → CanRise (write_way d v o len n) (record_of (shape_of d) v n)
