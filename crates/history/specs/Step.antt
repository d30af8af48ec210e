-- A call made on what the user holds. Answers, drives, volumes and pads are those of the calls' own definitions.
use Rattle.std.specs.Prelude.{ℕ, ◌+◌, Bool, false, List, [], ◌++◌, leb, ltb, length}
use Rattle.base.specs.Pick.{pick, both, either}
use Rattle.answers.specs.Answer.{Answer}
use Rattle.answers.specs.Numbers.{accepts}
use Rattle.records.specs.Listing.{Entry}
use Rattle.drive.specs.declared.Drive.{Drive}
use Rattle.drive.specs.Drive.{shape_of, is_changing}
use Rattle.opening.specs.Mount.{mount_answer, mount_done}
use Rattle.reading.specs.Read.{read_answer}
use Rattle.reports.specs.Report.{report_answer}
use Rattle.reports.specs.Stored.{stored_answer}
use Rattle.changes.specs.Laid.{over}
use Rattle.changes.specs.Write.{write_answer, writes, write_done, write_volume, write_pads}
use Rattle.changes.specs.Rekey.{begin_answer, begin_done, begin_volume, sweep_answer, sweep_done, sweep_volume, sweep_pads, finish_answer, finish_done, finish_volume}
use Rattle.changes.specs.Discard.{discard_answer, clears, discard_done, discard_volume, discards_at}
use Rattle.ledger.specs.Totals.{risen}
use Rattle.history.specs.World.{World, Call, mount, write, begin, sweep, finish, discard, asks, read, report, stored}
use Rattle.records.specs.Record.{record_of}

-- "Mount takes both secrets (the old one unused when steady)": the right one while changing, anything when steady
abbrev pub old_for : World → List ℕ → List ℕ
old_for w any = pick (is_changing w.drive.state) w.old any

-- what a call answers
abbrev pub answer_to : World → Call → Answer
answer_to w (mount any) = mount_answer w.vol w.secret (old_for w any) w.outside
answer_to w (write o bytes) = write_answer w.drive w.vol o (length bytes)
answer_to w (begin secret) = begin_answer w.drive w.vol secret
answer_to w (sweep n) = sweep_answer w.drive w.vol n
answer_to w finish = finish_answer w.drive w.vol
answer_to w (discard n first count) = discard_answer w.drive w.vol n first count
answer_to w (asks (read o buffer)) = read_answer w.drive w.vol o (length buffer)
answer_to w (asks report) = report_answer w.drive w.vol
answer_to w (asks (stored n f)) = stored_answer w.drive w.vol n f

-- what a call that may change the volume leaves in the user's hands; the outside counter "advances to the value each
-- changing call returns", and what is retired goes by the records before and after alone
unfoldable pub world_after : World → Drive → List ℕ → List Entry → List ℕ → List ℕ → (ℕ → ℕ) → World
world_after w drive vol pads secret old contents =
    record {
      vol = vol;
      drive = drive;
      secret = secret;
      old = old;
      outside = drive.counter;
      listing = w.listing ++ pads;
      retired = w.retired + risen w.drive.p w.drive.n (record_of (shape_of w.drive) w.vol) (record_of (shape_of drive) vol);
      contents = contents;
    }

-- the contents once a write is accepted, and the same if it is refused
abbrev pub contents_after : World → ℕ → List ℕ → ℕ → ℕ
contents_after w o bytes a = pick (accepts (answer_to w (write o bytes))) (over o bytes a (w.contents a)) (w.contents a)

-- document 02, Item 4: "a discarded place counts as never written"
abbrev pub contents_without : World → ℕ → ℕ → ℕ → ℕ → ℕ
contents_without w n first count a =
    pick (both (accepts (answer_to w (discard n first count))) (discards_at (shape_of w.drive) n first count a)) 0 (w.contents a)

-- what the user holds after a mount
unfoldable pub mounted : World → Drive → World
mounted w drive =
    record {
      vol = w.vol;
      drive = drive;
      secret = w.secret;
      old = w.old;
      outside = w.outside;
      listing = w.listing;
      retired = w.retired;
      contents = w.contents;
    }

-- "each given the volume as last left and the drive as last returned"
unfoldable pub step : World → Call → World
step w (mount any) = mounted w (mount_done w.vol w.secret (old_for w any) w.outside).drive
step w (write o bytes) =
    world_after w (write_done w.drive w.vol o bytes).drive (write_volume w.drive w.vol o bytes) (write_pads w.drive w.vol o bytes) w.secret w.old
    (contents_after w o bytes)
step w (begin secret) =
    let a = accepts (answer_to w (begin secret)) in
    world_after w (begin_done w.drive w.vol secret).drive (begin_volume w.drive w.vol secret) [] (pick a secret w.secret) (pick a w.secret w.old)
    w.contents
step w (sweep n) =
    world_after w (sweep_done w.drive w.vol n).drive (sweep_volume w.drive w.vol n) (sweep_pads w.drive w.vol n) w.secret w.old w.contents
step w finish = world_after w (finish_done w.drive w.vol).drive (finish_volume w.drive w.vol) [] w.secret w.old w.contents
step w (discard n first count) =
    world_after w (discard_done w.drive w.vol n first count).drive (discard_volume w.drive w.vol n first count) [] w.secret w.old
    (contents_without w n first count)
step w (asks q) = w

-- "Each accepted format, nonempty write, begin, sweep and finish adds 1 to the counter", and a discard unless it "clears nothing":
-- the call is an accepted change
abbrev pub changes_by : World → Call → Bool
changes_by w (mount any) = false
changes_by w (write o bytes) = writes (answer_to w (write o bytes)) bytes
changes_by w (begin secret) = accepts (answer_to w (begin secret))
changes_by w (sweep n) = accepts (answer_to w (sweep n))
changes_by w finish = accepts (answer_to w finish)
changes_by w (discard n first count) = clears w.drive w.vol n first count
changes_by w (asks q) = false

-- the call is an accepted write over offset a
abbrev pub writes_at : ℕ → World → Call → Bool
writes_at a w (mount any) = false
writes_at a w (write o bytes) = both (accepts (answer_to w (write o bytes))) (both (leb o a) (ltb a (o + length bytes)))
writes_at a w (begin secret) = false
writes_at a w (sweep n) = false
writes_at a w finish = false
writes_at a w (discard n first count) = false
writes_at a w (asks q) = false

-- an accepted discard of it
abbrev pub frees_at : ℕ → World → Call → Bool
frees_at a w (mount any) = false
frees_at a w (write o bytes) = false
frees_at a w (begin secret) = false
frees_at a w (sweep n) = false
frees_at a w finish = false
frees_at a w (discard n first count) = both (accepts (answer_to w (discard n first count))) (discards_at (shape_of w.drive) n first count a)
frees_at a w (asks q) = false

-- or one of the two
abbrev pub alters_at : ℕ → World → Call → Bool
alters_at a w c = either (writes_at a w c) (frees_at a w c)
