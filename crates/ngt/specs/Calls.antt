-- What each function of the C interface answers and what each lent byte holds at the end. "The answer's image, 16 bytes,
-- always stored"; "Each function also returns the number."
use Rattle.std.specs.Prelude.{◌≡◌, Bool, not, List, ◌++◌, ℕ, eqb, length}
use Rattle.base.specs.Pick.{pick}
use Rattle.words.specs.Le.{le}
use Rattle.answers.specs.Answer.{Answer}
use Rattle.answers.specs.Numbers.{number_of, accepts}
use Rattle.layout.specs.declared.Shape.{Shape}
use Rattle.layout.specs.Parts.{flake_at}
use Rattle.images.specs.Answers.{answer_image}
use Rattle.drive.specs.declared.Drive.{Drive}
use Rattle.drive.specs.declared.Done.{Done}
use Rattle.drive.specs.Drive.{shape_of, zeros}
use Rattle.packed.specs.Image.{drive_image}
use Rattle.opening.specs.Format.{format_done, format_volume}
use Rattle.opening.specs.Mount.{mount_done}
use Rattle.reading.specs.Read.{read_answer, read_buffer}
use Rattle.reports.specs.declared.told.Report.{Report}
use Rattle.reports.specs.Report.{report_of}
use Rattle.reports.specs.Stored.{stored_answer}
use Rattle.changes.specs.Rekey.{begin_done, begin_volume, sweep_done, sweep_volume, finish_done, finish_volume}
use Rattle.changes.specs.Write.{writes, write_done, write_volume}
use Rattle.handing.specs.Handing.{export_answer, export_buffer, import_done, import_volume}
use Rattle.changes.specs.Discard.{discard_done, discard_volume}
use Rattle.queues.specs.declared.Queued.{Queued}
use Rattle.queues.specs.Images.{images_done, images_volume}

-- the number and the answer's image tell this answer
pub record Tells (a : Answer) (number : ℕ) (answer : List ℕ) : Type 0 where
  pub told : number ≡ number_of a
  pub shown : answer ≡ answer_image a

pub record Formatted (s : Shape) (salt secret : List ℕ) (outside : ℕ) (v : List ℕ) (number : ℕ) (vol image answer : List ℕ) : Type 0 where
  pub tells : Tells (format_done s salt secret outside v).answer number answer
  pub volume : vol ≡ format_volume s salt secret outside v
  pub drive : image ≡ drive_image (format_done s salt secret outside v).drive

pub record Mounted (v present old : List ℕ) (outside number : ℕ) (image answer : List ℕ) : Type 0 where
  pub tells : Tells (mount_done v present old outside).answer number answer
  pub drive : image ≡ drive_image (mount_done v present old outside).drive

pub record Filled (d : Drive) (v : List ℕ) (offset : ℕ) (given : List ℕ) (number : ℕ) (buffer answer : List ℕ) : Type 0 where
  pub tells : Tells (read_answer d v offset (length given)) number answer
  pub bytes : buffer ≡ read_buffer d v offset given

pub record Exported (d : Drive) (v key tweak given : List ℕ) (number : ℕ) (buffer answer : List ℕ) : Type 0 where
  pub tells : Tells (export_answer d v key tweak (length given)) number answer
  pub bytes : buffer ≡ export_buffer d v key tweak given

-- "N, moved, left, flakes, share in hundredths of a percent, 4 bytes each"
abbrev pub report_image : Report → List ℕ
report_image r = le 4 r.n ++ (le 4 r.moved ++ (le 4 r.left ++ (le 4 r.flakes ++ le 4 r.share)))

pub record Reported (d : Drive) (v : List ℕ) (number : ℕ) (report answer : List ℕ) : Type 0 where
  pub tells : Tells (report_of d v).answer number answer
  pub numbers : report ≡ report_image (report_of d v)

-- "where the part begins in the volume and its length, 8 bytes each; both zero if refused"
unfoldable pub span_image : Drive → List ℕ → ℕ → ℕ → List ℕ
span_image d v n f = pick (accepts (stored_answer d v n f)) (le 8 (flake_at (shape_of d) n f) ++ le 8 d.f) (zeros 16)

pub record Shown (d : Drive) (v : List ℕ) (n f number : ℕ) (span answer : List ℕ) : Type 0 where
  pub tells : Tells (stored_answer d v n f) number answer
  pub part : span ≡ span_image d v n f

-- "Where the drive comes back as given, no byte of the image is stored; otherwise the whole image is."
unfoldable pub image_after : Bool → Drive → List ℕ → List ℕ
image_after changes d given = pick changes (drive_image d) given

-- what a call that may change drive and volume leaves, where `after` is the volume by the call's own definition
pub record Changed (done : Done) (changes : Bool) (after given : List ℕ) (number : ℕ) (vol image answer : List ℕ) : Type 0 where
  pub tells : Tells done.answer number answer
  pub volume : vol ≡ after
  pub drive : image ≡ image_after changes done.drive given

-- begin, sweep and finish change the drive if they are accepted
abbrev pub Rekeyed : Done → List ℕ → List ℕ → ℕ → List ℕ → List ℕ → List ℕ → Type 0
Rekeyed done after given number vol image answer = Changed done (accepts done.answer) after given number vol image answer

abbrev pub Begun : Drive → List ℕ → List ℕ → List ℕ → ℕ → List ℕ → List ℕ → List ℕ → Type 0
Begun d v secret = Rekeyed (begin_done d v secret) (begin_volume d v secret)

abbrev pub Finished : Drive → List ℕ → List ℕ → ℕ → List ℕ → List ℕ → List ℕ → Type 0
Finished d v = Rekeyed (finish_done d v) (finish_volume d v)

abbrev pub Swept : Drive → List ℕ → ℕ → List ℕ → ℕ → List ℕ → List ℕ → List ℕ → Type 0
Swept d v n = Rekeyed (sweep_done d v n) (sweep_volume d v n)

-- a write changes the drive if it is accepted and not empty
abbrev pub Written : Drive → List ℕ → ℕ → List ℕ → List ℕ → ℕ → List ℕ → List ℕ → List ℕ → Type 0
Written d v offset bytes = Changed (write_done d v offset bytes) (writes (write_done d v offset bytes).answer bytes) (write_volume d v offset bytes)

-- an import changes the drive if it is accepted: no drive is without contents
abbrev pub Imported : Drive → List ℕ → List ℕ → List ℕ → List ℕ → List ℕ → ℕ → List ℕ → List ℕ → List ℕ → Type 0
Imported d v key tweak bytes = Rekeyed (import_done d v key tweak bytes) (import_volume d v key tweak bytes)

-- "no byte of it if none of them changed the drive": each write that changes the drive adds 1 to the counter, so the counter tells
abbrev pub counter_rose : Drive → Drive → Bool
counter_rose d next = not (eqb d.counter next.counter)

-- a discard that clears nothing doesn't either, and the counter tells it too
abbrev pub Discarded : Drive → List ℕ → ℕ → ℕ → ℕ → List ℕ → ℕ → List ℕ → List ℕ → List ℕ → Type 0
Discarded d v n first count =
    Changed (discard_done d v n first count) (counter_rose d (discard_done d v n first count).drive) (discard_volume d v n first count)

-- what a queue leaves, where `queued` is what it handed back and `after` the volume; "a queue's `done` says how many were done"
pub record Queues (d : Drive) (queued : Queued) (after given : List ℕ) (number : ℕ) (vol image done answer : List ℕ) : Type 0 where
  pub tells : Tells queued.outcome.answer number answer
  pub volume : vol ≡ after
  pub drive : image ≡ image_after (counter_rose d queued.drive) queued.drive given
  pub counts : done ≡ le 8 queued.outcome.done

abbrev pub QueuedBy : Drive → List ℕ → List ℕ → List ℕ → List ℕ → ℕ → List ℕ → List ℕ → List ℕ → List ℕ → Type 0
QueuedBy d v requests bytes = Queues d (images_done d v requests bytes) (images_volume d v requests bytes)
