-- Export and import over histories. Each statement is proved, under the same name in small letters, in proofs/Runs.antt.
use Rattle.std.specs.Prelude.{ℕ, ◌*◌, ◌%◌, ◌<◌, ◌≡◌, Bool, true, List, [], ◌∷◌, ◌++◌, eqb, length}
use Rattle.base.specs.Pick.{pick, both}
use Rattle.base.specs.Lists.{same}
use Rattle.words.specs.Le.{Bytes}
use Rattle.answers.specs.Answer.{Answer}
use Rattle.answers.specs.Answer as A
use Rattle.answers.specs.Numbers.{accepts}
use Rattle.records.specs.Journal.{bit}
use Rattle.records.specs.Record.{record_of}
use Rattle.drive.specs.Drive.{shape_of}
use Rattle.reading.specs.Read.{read_buffer}
use Rattle.handing.specs.Handing.{hand_answer, export_answer, import_answer, export_buffer, import_bytes, import_done, import_volume, import_pads}
use Rattle.history.specs.World.{World, Call, write}
use Rattle.history.specs.History.{Start, history}
use Rattle.history.specs.Answers.{◌if◌else◌, ◌unless◌else◌, counter_full}

-- the one write that an import is, and none if it is refused before
abbrev pub import_calls : World → List ℕ → List ℕ → List ℕ → List Call
import_calls w one two bytes =
    pick (accepts (hand_answer w.drive w.vol one two (length bytes))) (write 0 (import_bytes one two bytes) ∷ []) []

-- u is what the user of w holds after an import
pub record HoldsImport (w : World) (one two bytes : List ℕ) (u : World) : Type 0 where
  pub drive : u.drive ≡ (import_done w.drive w.vol one two bytes).drive
  pub vol : u.vol ≡ import_volume w.drive w.vol one two bytes
  pub listing : u.listing ≡ w.listing ++ import_pads w.drive w.vol one two bytes
  pub secret : u.secret ≡ w.secret
  pub old : u.old ≡ w.old

-- "it counts as that one write": a history with an import in it is a history with that write, and each demand speaks of it.
abbrev pub ImportHistory : Type 0
ImportHistory =
    (start : Start) (calls : List Call) (one two bytes : List ℕ)
    → let w = history start calls in
    HoldsImport w one two bytes (history start (calls ++ import_calls w one two bytes))

-- N P F is a multiple of 512, and the buffer is N P F long
abbrev pub whole_sectors : World → ℕ → Bool
whole_sectors w len = let whole = w.drive.n * w.drive.p * w.drive.f in both (eqb (whole % 512) 0) (eqb len whole)

-- the table: 2: the buffer; 10: one key twice; 13: counter at its top
abbrev pub export_due : World → List ℕ → List ℕ → ℕ → Answer
export_due w one two len =
    A.Length unless whole_sectors w len
    else A.SameSecret if same one two
    else A.Accepted

abbrev pub import_due : World → List ℕ → List ℕ → ℕ → Answer
import_due w one two len =
    A.Length unless whole_sectors w len
    else A.SameSecret if same one two
    else A.CounterTop if counter_full w
    else A.Accepted

-- In every history export and import answer what the table says, and nothing else.
abbrev pub HandsExactly : Type 0
HandsExactly =
    (start : Start) (calls : List Call) (one two : List ℕ) (len : ℕ)
    → let w = history start calls in
    (export_answer w.drive w.vol one two len ≡ export_due w one two len) × (import_answer w.drive w.vol one two len ≡ import_due w one two len)

-- u has the contents of w, and every flake of it is present
pub record SameContents (len : ℕ) (w u : World) : Type 0 where
  pub contents : (a : ℕ) → a < len → u.contents a ≡ w.contents a
  pub present : (n f : ℕ) → n < u.drive.n → f < u.drive.p → bit (record_of (shape_of u.drive) u.vol n).held f ≡ true

-- "Import after export gives the same contents, absent flakes having become present zeros.": into the same drive, or into any other. What
-- is read are bytes, as the code's types say.
abbrev pub ImportAfterExport : Type 0
ImportAfterExport =
    (start other : Start) (calls others : List Call) (one two out : List ℕ)
    → let w = history start calls in
    let u = history other others in
    let bytes = export_buffer w.drive w.vol one two out in
    export_answer w.drive w.vol one two (length out) ≡ A.Accepted → Bytes (read_buffer w.drive w.vol 0 out)
    → import_answer u.drive u.vol one two (length bytes) ≡ A.Accepted
    → SameContents (length out) w (history other (others ++ import_calls u one two bytes))
