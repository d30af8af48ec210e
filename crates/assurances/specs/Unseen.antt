-- What no call looks at, for every drive and every volume, hostile ones too.
use Rattle.std.specs.Prelude.{ℕ, ◌*◌, ◌<◌, ◌≤◌, ◌≡◌, true, false, List, length}
use Rattle.std.proofs.lemmas.List.Edits.{sets}
use Rattle.base.specs.Lists.{part}
use Rattle.layout.specs.Shape.{leaves}
use Rattle.layout.specs.Parts.{tag_at, flake_at}
use Rattle.records.specs.Journal.{bit}
use Rattle.nodes.specs.Nodes.{node_in, leaf_of}
use Rattle.records.specs.Record.{record_of}
use Rattle.drive.specs.declared.Drive.{Drive}
use Rattle.drive.specs.Drive.{shape_of, is_changing}
use Rattle.nuggets.specs.Nugget.{stored_in}
use Rattle.reading.specs.Read.{read_answer, read_buffer}
use Rattle.reports.specs.Report.{report_of}
use Rattle.reports.specs.Stored.{stored_flake}
use Rattle.history.specs.World.{World, Call}
use Rattle.history.specs.Step.{answer_to, step, changes_by}

-- the drive with something else for its old secret
abbrev pub with_old : Drive → List ℕ → Drive
with_old d any =
    record {
      n = d.n;
      p = d.p;
      f = d.f;
      version = d.version;
      cipher = d.cipher;
      salt = d.salt;
      state = d.state;
      epoch = d.epoch;
      counter = d.counter;
      node = d.node;
      present = d.present;
      old = any;
    }

abbrev pub swapped : World → List ℕ → World
swapped w any =
    record {
      vol = w.vol;
      drive = with_old w.drive any;
      secret = w.secret;
      old = w.old;
      outside = w.outside;
      listing = w.listing;
      retired = w.retired;
      contents = w.contents;
    }

-- two worlds that differ at most in what their drives hold as old secret
abbrev pub AlikeButOld : World → World → Type 0
AlikeButOld u w = swapped u w.drive.old ≡ w

-- "In a steady drive the old secret isn't looked at": two steady drives that differ in it alone get the same answer to every
-- call, and leave worlds alike but for that field; after an accepted change, in which zeros come there, worlds alike.
abbrev pub OldUnseen : Type 0
OldUnseen =
    (w : World) (any : List ℕ) (c : Call)
    → let u = swapped w any in
    is_changing w.drive.state ≡ false
    → (answer_to u c ≡ answer_to w c) × AlikeButOld (step u c) (step w c) × (changes_by w c ≡ true → step u c ≡ step w c)

-- and see the same
abbrev pub OldUnread : Type 0
OldUnread =
    (d : Drive) (v any : List ℕ)
    → let e = with_old d any in
    is_changing d.state ≡ false
    → ((o : ℕ) (buffer : List ℕ) → read_buffer e v o buffer ≡ read_buffer d v o buffer)
    × (report_of e v ≡ report_of d v) × ((n f : ℕ) → stored_flake e v n f ≡ stored_flake d v n f)

-- "Tags and stored bytes of absent flakes aren't looked at, though the tags enter the leaf": two volumes that differ at most
-- in those, and whose tags make the same leaves
pub record ButAbsent (d : Drive) (v w : List ℕ) : Type 0 where
  pub long : length w ≡ length v
  pub head : part 0 104 w ≡ part 0 104 v
  pub records : (n : ℕ) → n < d.n → record_of (shape_of d) w n ≡ record_of (shape_of d) v n
  pub nodes : (i : ℕ) → 1 ≤ i → i < 2 * leaves d.n → node_in (shape_of d) w i ≡ node_in (shape_of d) v i
  pub made : (n : ℕ) → n < d.n → leaf_of (shape_of d) w n ≡ leaf_of (shape_of d) v n
  pub flakes : (n f : ℕ) → n < d.n → f < d.p → bit (record_of (shape_of d) v n).held f ≡ true → stored_in (shape_of d) w n f ≡ stored_in (shape_of d) v n f
  pub tags : (n f : ℕ) → n < d.n → f < d.p → bit (record_of (shape_of d) v n).held f ≡ true → part (tag_at (shape_of d) n f) 16 w ≡ part (tag_at (shape_of d) n f) 16 v

-- A read of either answers the same and fills the buffer the same.
abbrev pub AbsentUnseen : Type 0
AbsentUnseen =
    (d : Drive) (v w : List ℕ) (o : ℕ) (buffer : List ℕ) → ButAbsent d v w
    → (read_answer d w o (length buffer) ≡ read_answer d v o (length buffer)) × (read_buffer d w o buffer ≡ read_buffer d v o buffer)

-- Such is a volume with other stored bytes for a flake that is absent.
abbrev pub AbsentBytes : Type 0
AbsentBytes =
    (d : Drive) (v : List ℕ) (n f : ℕ) (other : List ℕ) → n < d.n → f < d.p → bit (record_of (shape_of d) v n).held f ≡ false → length other ≡ d.f
    → ButAbsent d v (sets v (flake_at (shape_of d) n f) other)
