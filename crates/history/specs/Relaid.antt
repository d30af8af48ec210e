-- "A flake that the write doesn't touch is to be re-enciphered by laying old and new pad over the stored bytes together." Over every
-- history. Each statement is proved, under the same name in small letters, in proofs/Relaid.antt.
use Rattle.std.specs.Prelude.{ℕ, ◌<◌, ◌≡◌, true, false, List, length}
use Rattle.answers.specs.Numbers.{accepts}
use Rattle.records.specs.Journal.{bit}
use Rattle.records.specs.Record.{record_of}
use Rattle.records.specs.Rule.{sweep_way, rekeys}
use Rattle.drive.specs.Drive.{shape_of}
use Rattle.nuggets.specs.Nugget.{stored_in}
use Rattle.nuggets.specs.Touched.{meets}
use Rattle.changes.specs.Write.{write_way, write_answer, writes}
use Rattle.changes.specs.Rekey.{sweep_answer}
use Rattle.changes.specs.Relaid.{relaid_under}
use Rattle.history.specs.World.{Call, write, sweep}
use Rattle.history.specs.Step.{step}
use Rattle.history.specs.History.{Start, history}

-- A sweep relays every flake that its nugget holds.
abbrev pub SweepRelays : Type 0
SweepRelays =
    (start : Start) (calls : List Call) (n f : ℕ)
    → let w = history start calls in
    let s = shape_of w.drive in
    accepts (sweep_answer w.drive w.vol n) ≡ true → f < s.p → bit (record_of s w.vol n).held f ≡ true
    → stored_in s (step w (sweep n)).vol n f ≡ relaid_under w.drive w.vol sweep_way n f

-- A write that rekeys a nugget relays every flake held there that it doesn't meet.
abbrev pub WriteRelays : Type 0
WriteRelays =
    (start : Start) (calls : List Call) (o : ℕ) (bytes : List ℕ) (n f : ℕ)
    → let w = history start calls in
    let s = shape_of w.drive in
    let way = write_way w.drive w.vol o (length bytes) n in
    writes (write_answer w.drive w.vol o (length bytes)) bytes ≡ true → n < s.n → f < s.p → rekeys way ≡ true
    → bit (record_of s w.vol n).held f ≡ true → meets s o (length bytes) n f ≡ false
    → stored_in s (step w (write o bytes)).vol n f ≡ relaid_under w.drive w.vol way n f
