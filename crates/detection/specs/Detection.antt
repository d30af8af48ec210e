-- What an accepted call says of the volume, for every drive and every volume. Each statement is proved, under the same name in
-- small letters, in proofs/Detection.antt.
use Rattle.std.specs.Prelude.{ℕ, ◌+◌, ◌%◌, ◌<◌, ◌≤◌, ◌≡◌, ◌⊎◌, List}
use Rattle.base.specs.Lists.{part}
use Rattle.words.specs.Le.{num}
use Rattle.layout.specs.Spots.{spot_at}
use Rattle.answers.specs.Answer.{Answer}
use Rattle.answers.specs.Answer as A
use Rattle.messages.specs.Messages.{check_message, seal_message}
use Rattle.blake2s.specs.Hash.{blake2s}
use Rattle.nodes.specs.Nodes.{node_in}
use Rattle.records.specs.Record.{record_of}
use Rattle.drive.specs.declared.Drive.{Drive}
use Rattle.drive.specs.Drive.{shape_of, zeros}
use Rattle.reading.specs.Read.{read_answer}
use Rattle.reports.specs.Report.{report_answer}
use Rattle.opening.specs.Mount.{shape_in, opened_drive, mount_answer}
use Rattle.changes.specs.Write.{write_answer}
use Rattle.changes.specs.Rekey.{begin_answer, sweep_answer, finish_answer}
use Rattle.changes.specs.Discard.{discard_answer}
use Rattle.detection.specs.Right.{HeadRight, PathGood, SaysPresent, TagRight, TagsRight, WholeGood}

-- the calls on an open drive, but stored flake, with what they answer
pub data Answered (d : Drive) (v : List ℕ) : Answer → Type 0 where
  read : (o len : ℕ) → Answered d v (read_answer d v o len)
  write : (o len : ℕ) → Answered d v (write_answer d v o len)
  begin : (secret : List ℕ) → Answered d v (begin_answer d v secret)
  sweep : (n : ℕ) → Answered d v (sweep_answer d v n)
  finish : Answered d v (finish_answer d v)
  discard : (n first count : ℕ) → Answered d v (discard_answer d v n first count)
  report : Answered d v (report_answer d v)

-- "All others start 1, 2, 7 head": each accepted one has the drive's head before it, and the drive's node 1
abbrev pub HeadDetected : Type 0
HeadDetected = (d : Drive) (v : List ℕ) (a : Answer) → Answered d v a → a ≡ A.Accepted → HeadRight d v

-- "Read tests touched present flakes": of each byte that an accepted read gives, the nugget's path is good and, if the flake is
-- present, its tag is right
abbrev pub ReadDetected : Type 0
ReadDetected =
    (d : Drive) (v : List ℕ) (o len a : ℕ) → read_answer d v o len ≡ A.Accepted → o ≤ a → a < o + len
    → let at = spot_at (shape_of d) a in
    PathGood d v at.nugget × (SaysPresent d v at.nugget at.flake → TagRight d v at.nugget at.flake)

-- An accepted write: of each byte that it lays down, the nugget's path is good
abbrev pub WriteDetected : Type 0
WriteDetected =
    (d : Drive) (v : List ℕ) (o len a : ℕ) → write_answer d v o len ≡ A.Accepted → o ≤ a → a < o + len
    → PathGood d v (spot_at (shape_of d) a).nugget

-- "a rekey tests all of J": if a flake that it touches is present, or the nugget's epoch isn't the head's
abbrev pub RekeyDetected : Type 0
RekeyDetected =
    (d : Drive) (v : List ℕ) (o len a : ℕ) → write_answer d v o len ≡ A.Accepted → o ≤ a → a < o + len
    → let at = spot_at (shape_of d) a in
    SaysPresent d v at.nugget at.flake ⊎ ((record_of (shape_of d) v at.nugget).epoch ≡ d.epoch → ⊥)
    → TagsRight d v at.nugget

-- "Sweep: 9, 8, 7 path, 12, 13, [..] 7 flakes."
abbrev pub SweepDetected : Type 0
SweepDetected = (d : Drive) (v : List ℕ) (n : ℕ) → sweep_answer d v n ≡ A.Accepted → (n < d.n) × PathGood d v n × TagsRight d v n

-- Document 02, Item 4: "Discard, after 7 head: [..] 7 path"
abbrev pub DiscardDetected : Type 0
DiscardDetected = (d : Drive) (v : List ℕ) (n first count : ℕ) → discard_answer d v n first count ≡ A.Accepted → (n < d.n) × PathGood d v n

-- "Finish: 9, 7 whole, 11, 13." "Report: 7 whole."
abbrev pub FinishDetected : Type 0
FinishDetected = (d : Drive) (v : List ℕ) → finish_answer d v ≡ A.Accepted → WholeGood d v

abbrev pub ReportDetected : Type 0
ReportDetected = (d : Drive) (v : List ℕ) → report_answer d v ≡ A.Accepted → WholeGood d v

-- what a mount holds the volume against: the brought secrets and the outside counter
pub record Mounts (v present old : List ℕ) (outside : ℕ) : Type 0 where
  -- "Seal: keyed with the present secret, `H`, head bytes 0-71, node 1."
  pub seal : part 72 32 v ≡ blake2s present (seal_message (part 0 72 v) (node_in (shape_in v) v 1))
  -- "Old-secret check: keyed with the old secret, `O`, salt, head epoch (2)"; "when steady: from zeros"
  pub steady : num (part 5 1 v) % 16 ≡ 0 → part 40 32 v ≡ zeros 32
  pub changing : num (part 5 1 v) % 16 ≡ 1 → part 40 32 v ≡ blake2s old (check_message (part 16 16 v) (num (part 6 2 v)))
  -- "1 for any other value of byte 5" than 0, 1, 16 and 17
  pub state : num (part 5 1 v) % 16 ≤ 1
  pub kind : num (part 5 1 v) ≤ 17
  -- "head counter is not the outside counter" is refused
  pub counter : num (part 32 8 v) ≡ outside
  pub whole : WholeGood (opened_drive v present old) v

-- "Mount: 2 (under 104 bytes), 3, 1, 2, 4, 5, 6, 7 whole."
abbrev pub MountDetected : Type 0
MountDetected = (v present old : List ℕ) (outside : ℕ) → mount_answer v present old outside ≡ A.Accepted → Mounts v present old outside
