-- Document 02, Item 7: "so that answer 13 always comes first".
use Rattle.std.specs.Prelude.{ℕ, ◌^◌, ◌<◌, ◌≡◌, List}
use Rattle.answers.specs.Answer as A
use Rattle.records.specs.Record.{record_of}
use Rattle.drive.specs.declared.Drive.{Drive}
use Rattle.drive.specs.Drive.{shape_of, counter_top}
use Rattle.nuggets.specs.Tests.{path_for}

-- For every drive and every volume, hostile ones too: where a nugget's path passes and 13 isn't due, its keycount is below its
-- top, so a rekey of it finds a next keycount. A counter has eight bytes.
abbrev pub ThirteenFirst : Type 0
ThirteenFirst =
    (d : Drive) (v : List ℕ) (n : ℕ) → d.counter < 2 ^ 64
    → path_for d v n ≡ A.Accepted → (d.counter ≡ counter_top → ⊥) → (record_of (shape_of d) v n).keycount < counter_top
