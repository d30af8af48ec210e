-- The demands as theorems over every history. Each is proved, under the same name in small letters, in proofs/.
--
-- start : Start                    one accepted format, with what it was given: shape, salt, secret, outside counter
-- calls : List Call                any calls after it, with any arguments, accepted or refused
-- w = history start calls          what the user holds after them
-- w.vol, w.drive                 the volume as last left, the drive as last returned
-- w.secret, w.old, w.outside    the secrets and the outside counter that the user brings to a mount
-- w.listing, w.retired           beside them: every enciphering so far; how many flakes keycount rises have retired
-- w.contents a                    beside them: the byte last written at offset a, 0 where none was or it was discarded since
-- answer_to w c, step w c           what call c answers, and what the user holds after it
-- n, f; o, a; v                    a nugget and a flake of it; offsets into the contents; a volume's bytes
-- A → B, A × B, A ⊎ B, A → ⊥       if A then B; both; one of the two; never A
use Rattle.std.specs.Prelude.{ℕ, ◌+◌, ◌<◌, ◌≤◌, ◌≡◌, Bool, true, false, ◌⊎◌, ◌↔◌, List, ◌∷◌, ◌++◌, length, get_or}
use Rattle.std.proofs.Math.Option.{some}
use Rattle.base.specs.Pick.{both}
use Rattle.base.specs.Lists.{tab, part}
use Rattle.words.specs.Xor.{xorl}
use Rattle.answers.specs.Answer as A
use Rattle.answers.specs.Numbers.{number_of}
use Rattle.layout.specs.declared.Shape.{Shape}
use Rattle.layout.specs.Parts.{tag_at}
use Rattle.layout.specs.Spots.{offset_at}
use Rattle.records.specs.Journal.{bit}
use Rattle.records.specs.Rule.{cleared_by, rekeys}
use Rattle.records.specs.Listing.{Entry}
use Rattle.poly1305.specs.Poly1305.{poly1305}
use Rattle.keys.specs.Keys.{tag_key}
use Rattle.keys.specs.Tags.{covered}
use Rattle.keys.specs.Pads.{pad_of}
use Rattle.drive.specs.Drive.{shape_of}
use Rattle.opening.specs.Mount.{mount_answer, mount_done}
use Rattle.nuggets.specs.Nugget.{secret_for, lock_of, stored_in}
use Rattle.reading.specs.Read.{read_buffer}
use Rattle.reports.specs.Report.{report_of}
use Rattle.ledger.specs.Listing.{last_of, NoneTwice}
use Rattle.history.specs.World.{World, Call, mount, write, begin, sweep, finish, discard, asks, read}
use Rattle.ledger.specs.Totals.{spent_in}
use Rattle.changes.specs.Write.{write_way}
use Rattle.changes.specs.Rekey.{sweep_ways}
use Rattle.changes.specs.Discard.{clears_none, discard_ways, discards_at}
use Rattle.history.specs.Step.{old_for, answer_to, step, changes_by, writes_at, alters_at}
use Rattle.history.specs.History.{Start, begun, history, among}
use Rattle.records.specs.Record.{record_of}

-- The drive keeps the shape and the salt of its format; so nothing below speaks of a smaller or another drive.
abbrev pub ShapeKept : Type 0
ShapeKept =
    (start : Start) (calls : List Call)
    → let w = history start calls in
    (shape_of w.drive ≡ start.shape) × (w.drive.salt ≡ start.salt)

-- Document 02, Item 7: "from one format on no keycount is ever above the counter, so that answer 13 always comes first".
abbrev pub KeycountsBelow : Type 0
KeycountsBelow =
    (start : Start) (calls : List Call) (n : ℕ)
    → let w = history start calls in
    n < w.drive.n → (record_of (shape_of w.drive) w.vol n).keycount ≤ w.drive.counter

-- 1. "What is written is what is later read. A place never written reads as zero."
-- An accepted read fills its buffer with what was last written there, zeros where nothing was.
abbrev pub ReadsBack : Type 0
ReadsBack =
    (start : Start) (calls : List Call) (o : ℕ) (buffer : List ℕ)
    → let w = history start calls in
    answer_to w (asks (read o buffer)) ≡ A.Accepted
    → read_buffer w.drive w.vol o buffer ≡ tab (length buffer) (λ i. w.contents (o + i))

-- What was last written: byte i of an accepted write, if no accepted write or discard after it covers the place.
abbrev pub WrittenLast : Type 0
WrittenLast =
    (start : Start) (calls later : List Call) (o : ℕ) (bytes : List ℕ) (i : ℕ)
    → let w = history start calls in
    i < length bytes
    → answer_to w (write o bytes) ≡ A.Accepted
    → among (alters_at (o + i)) (step w (write o bytes)) later ≡ false
    → (history start (calls ++ (write o bytes ∷ later))).contents (o + i) ≡ get_or bytes i 0

-- and 0 if no accepted write covers it
abbrev pub NeverWritten : Type 0
NeverWritten = (start : Start) (calls : List Call) (a : ℕ) → among (writes_at a) (begun start) calls ≡ false → (history start calls).contents a ≡ 0

-- Document 02, Item 4: "a discarded place counts as never written": 0 until an accepted write covers it
abbrev pub DiscardedReadsZero : Type 0
DiscardedReadsZero =
    (start : Start) (calls later : List Call) (n first count a : ℕ)
    → let w = history start calls in
    answer_to w (discard n first count) ≡ A.Accepted
    → discards_at (shape_of w.drive) n first count a ≡ true
    → among (writes_at a) (step w (discard n first count)) later ≡ false
    → (history start (calls ++ (discard n first count ∷ later))).contents a ≡ 0

-- what a discard leaves of a nugget's record, flakes and tags: all but the held bits of the flakes gone
pub record KeptButHeld (s : Shape) (v u : List ℕ) (n gone : ℕ) : Type 0 where
  pub keycount : (record_of s u n).keycount ≡ (record_of s v n).keycount
  pub spent : (record_of s u n).spent ≡ (record_of s v n).spent
  pub held : (f : ℕ) → bit gone f ≡ false → bit (record_of s u n).held f ≡ bit (record_of s v n).held f
  pub epoch : (record_of s u n).epoch ≡ (record_of s v n).epoch
  pub stored : (f : ℕ) → f < s.p → stored_in s u n f ≡ stored_in s v n f
  pub tags : (f : ℕ) → f < s.p → part (tag_at s n f) 16 u ≡ part (tag_at s n f) 16 v

-- "clears held bits only; the pad stays spent": every nugget keeps all else
abbrev pub DiscardKeeps : Type 0
DiscardKeeps =
    (start : Start) (calls : List Call) (n first count m : ℕ)
    → let w = history start calls in
    m < w.drive.n → KeptButHeld (shape_of w.drive) w.vol (step w (discard n first count)).vol m (cleared_by (discard_ways n first count m))

-- "A discard that clears nothing adds nothing to the counter": drive and volume to the bit, whatever it answers
abbrev pub DiscardIdle : Type 0
DiscardIdle =
    (start : Start) (calls : List Call) (n first count : ℕ)
    → let w = history start calls in
    clears_none w.drive w.vol n first count ≡ true
    → ((step w (discard n first count)).drive ≡ w.drive) × ((step w (discard n first count)).vol ≡ w.vol)

-- an accepted change that rekeys nugget n
abbrev pub rekeys_in : World → Call → ℕ → Bool
rekeys_in w (mount any) n = false
rekeys_in w (write o bytes) n = both (changes_by w (write o bytes)) (rekeys (write_way w.drive w.vol o (length bytes) n))
rekeys_in w (begin secret) n = false
rekeys_in w (sweep m) n = both (changes_by w (sweep m)) (rekeys (sweep_ways m n))
rekeys_in w finish n = false
rekeys_in w (discard m first count) n = false
rekeys_in w (asks q) n = false

-- "A rekey enciphers held and touched flakes, and sets both masks to those": after it what is spent is what is held
abbrev pub RekeyEvens : Type 0
RekeyEvens =
    (start : Start) (calls : List Call) (c : Call) (n : ℕ)
    → let w = history start calls in
    let u = step w c in
    n < w.drive.n → rekeys_in w c n ≡ true → (record_of (shape_of u.drive) u.vol n).spent ≡ (record_of (shape_of u.drive) u.vol n).held

-- 2. "List every enciphering by nugget, keycount and flake. No entry comes twice." What that means for the keystream: Pads.antt.
abbrev pub NoEntryTwice : Type 0
NoEntryTwice = (start : Start) (calls : List Call) → NoneTwice (history start calls).listing

-- 3. "Entries listed equal flakes now present plus, for each keycount rise, its nugget's flakes present just before." Present
-- reads as spent here.
abbrev pub EntriesListed : Type 0
EntriesListed =
    (start : Start) (calls : List Call)
    → let w = history start calls in
    length w.listing ≡ spent_in w.drive.p w.drive.n (record_of (shape_of w.drive) w.vol) + w.retired

-- the F bytes last written to a flake, by the contents of all offsets
unfoldable pub plain_in : Shape → (ℕ → ℕ) → ℕ → ℕ → List ℕ
plain_in s contents n f = tab s.f (λ b. contents (offset_at s n f b))

-- a flake is its contents xor the pad last listed for it, that pad is of the secret of its nugget's epoch and of its nugget's
-- keycount, and the flake's tag is Poly1305 under that pad's tag key over the stored bytes, in version 2 with their names; what pads and keys are made of: Pads.antt
pub record LastPad (w : World) (n f : ℕ) : Type 0 where
  pub pad : Entry
  pub last : last_of n f w.listing ≡ some pad
  pub laid : stored_in (shape_of w.drive) w.vol n f
      ≡ xorl (plain_in (shape_of w.drive) w.contents n f) (pad_of (lock_of (shape_of w.drive) w.drive.salt pad) f w.drive.f)
  pub secret : pad.secret ≡ secret_for w.drive (record_of (shape_of w.drive) w.vol n).epoch
  pub keycount : pad.keycount ≡ (record_of (shape_of w.drive) w.vol n).keycount
  pub tagged : part (tag_at (shape_of w.drive) n f) 16 w.vol
      ≡ (let lock = lock_of (shape_of w.drive) w.drive.salt pad in poly1305 (tag_key lock f) (covered lock f (stored_in (shape_of w.drive) w.vol n f)))

-- 4. "Each present flake is its contents under the pad last listed for it."
abbrev pub UnderLastPad : Type 0
UnderLastPad =
    (start : Start) (calls : List Call) (n f : ℕ)
    → let w = history start calls in
    n < w.drive.n → f < w.drive.p → bit (record_of (shape_of w.drive) w.vol n).held f ≡ true → LastPad w n f

-- 5. "An image this drive left before its last accepted change never mounts against the present outside counter."
-- Whatever secrets are brought.
abbrev pub StaleNeverMounts : Type 0
StaleNeverMounts =
    (start : Start) (calls later : List Call) (present old : List ℕ)
    → let w = history start calls in
    among changes_by w later ≡ true → mount_answer w.vol present old (history start (calls ++ later)).outside ≡ A.Accepted → ⊥

-- 6. No false alarm: no call is answered 1 to 7.
abbrev pub NoFalseAlarm : Type 0
NoFalseAlarm =
    (start : Start) (calls : List Call) (c : Call)
    → let a = answer_to (history start calls) c in
    (a ≡ A.Accepted) ⊎ (8 ≤ number_of a)

-- A mount with the right secrets and outside counter is accepted and returns the very drive.
abbrev pub MountsBack : Type 0
MountsBack =
    (start : Start) (calls : List Call) (any : List ℕ)
    → let w = history start calls in
    mount_done w.vol w.secret (old_for w any) w.outside ≡ record { answer = A.Accepted; drive = w.drive }

-- 7. The share is 100.00 exactly when nothing is left.
abbrev pub ShareFull : Type 0
ShareFull =
    (start : Start) (calls : List Call)
    → let r = report_of (history start calls).drive (history start calls).vol in
    (r.share ≡ 10000) ↔ (r.left ≡ 0)
