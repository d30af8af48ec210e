-- What each call answers in every history, that a change of the secret can always be brought to its end, and when the old
-- secret may go. Each statement is proved, under the same name in small letters, in proofs/.
use Rattle.std.specs.Prelude.{ℕ, zero, suc, ◌+◌, ◌*◌, ◌-◌, ◌/◌, ◌^◌, ◌<◌, min, ◌≡◌, Bool, true, false, not, ◌⊎◌, List, [], ◌∷◌, ◌++◌, eqb, leb, ltb, length}
use Rattle.std.proofs.Math.Option.{some}
use Rattle.base.specs.Pick.{pick, either, both}
use Rattle.base.specs.Lists.{part, same}
use Rattle.messages.specs.Messages.{seal_message, check_message}
use Rattle.blake2s.specs.Hash.{blake2s}
use Rattle.answers.specs.Answer.{Answer}
use Rattle.answers.specs.Answer as A
use Rattle.answers.specs.Numbers.{accepts}
use Rattle.records.specs.Journal.{bit, many}
use Rattle.records.specs.Listing.{Entry}
use Rattle.records.specs.Record.{record_of}
use Rattle.drive.specs.Drive.{shape_of, is_changing}
use Rattle.opening.specs.Mount.{mount_answer, mount_done}
use Rattle.reports.specs.declared.told.Report.{Report}
use Rattle.reports.specs.Report.{report_of}
use Rattle.changes.specs.Discard.{clears_none}
use Rattle.ledger.specs.Listing.{last_of}
use Rattle.ledger.specs.Totals.{sum}
use Rattle.history.specs.World.{World, Call, mount, write, begin, sweep, finish, discard, asks, read, report, stored}
use Rattle.history.specs.Step.{answer_to, step}
use Rattle.history.specs.History.{Start, begun, run, history}

infixr 10 ◌if◌else◌ ◌unless◌else◌
-- A line of the tables below: an answer, and when it is due. The first that is due is given.
abbrev pub ◌if◌else◌ : Answer → Bool → Answer → Answer
a if test else b = pick test a b

abbrev pub ◌unless◌else◌ : Answer → Bool → Answer → Answer
a unless test else b = pick test b a

-- "State is either steady or changing"
abbrev pub changing : World → Bool
changing w = is_changing w.drive.state

-- "moved (epoch equal to the head's)", and left: not so
abbrev pub has_moved : World → ℕ → Bool
has_moved w n = eqb (record_of (shape_of w.drive) w.vol n).epoch w.drive.epoch

abbrev pub is_left : World → ℕ → Bool
is_left w n = not (has_moved w n)

-- nuggets left, of all N
abbrev pub nuggets_left : World → ℕ
nuggets_left w = many w.drive.n (is_left w)

-- "counter at its top"
abbrev pub counter_full : World → Bool
counter_full w = eqb w.drive.counter (2 ^ 64 - 1)

-- the range lies within the N P F bytes of the drive
abbrev pub in_range : World → ℕ → ℕ → Bool
in_range w o len = leb (o + len) (w.drive.n * w.drive.p * w.drive.f)

-- the range of flakes lies within a nugget of the drive, and none of them is held
abbrev pub in_nugget : World → ℕ → ℕ → ℕ → Bool
in_nugget w n first count = both (ltb n w.drive.n) (leb (first + count) w.drive.p)

abbrev pub none_held : World → ℕ → ℕ → ℕ → Bool
none_held w n first count = clears_none w.drive w.vol n first count

-- The table. 8: past the end; 9: not in this state, or not in this version; 10: the same secret; 11: nuggets left; 12: moved; 13: counter at its top;
-- 15: epoch at its top. 1 to 7 aren't in it; 14 is no answer's number.
abbrev pub due : World → Call → Answer
due w (mount any) = A.Accepted
due w (write o bytes) =
    A.PastEnd unless in_range w o (length bytes)
    else A.Accepted if eqb (length bytes) 0
    else A.CounterTop if counter_full w
    else A.Accepted
due w (begin secret) =
    A.State if changing w
    else A.SameSecret if same secret w.secret
    else A.EpochTop if eqb w.drive.epoch 65535
    else A.CounterTop if counter_full w
    else A.Accepted
due w (sweep n) =
    A.State unless changing w
    else A.PastEnd unless ltb n w.drive.n
    else A.Moved if has_moved w n
    else A.CounterTop if counter_full w
    else A.Accepted
due w finish =
    A.State unless changing w
    else A.Left (nuggets_left w) if ltb 0 (nuggets_left w)
    else A.CounterTop if counter_full w
    else A.Accepted
due w (discard n first count) =
    A.State if eqb w.drive.version 1
    else A.PastEnd unless in_nugget w n first count
    else A.Accepted if none_held w n first count
    else A.CounterTop if counter_full w
    else A.Accepted
due w (asks (read o buffer)) = A.PastEnd unless in_range w o (length buffer) else A.Accepted
due w (asks report) = A.Accepted
due w (asks (stored n f)) = A.PastEnd unless both (ltb n w.drive.n) (ltb f w.drive.p) else A.Accepted

-- In every history each call answers what the table says, and nothing else.
abbrev pub AnswersExactly : Type 0
AnswersExactly = (start : Start) (calls : List Call) (c : Call) → answer_to (history start calls) c ≡ due (history start calls) c

-- what the table goes by, beside the range and the nuggets left: state, epoch, counter and the secret that the user keeps
pub record Columns : Type 0 where
  pub begun : Bool
  pub epoch : ℕ
  pub counter : ℕ
  pub secret : List ℕ

abbrev pub columns : Bool → ℕ → ℕ → List ℕ → Columns
columns b e k s = record { begun = b; epoch = e; counter = k; secret = s }

abbrev pub columns_of : World → Columns
columns_of w = columns (changing w) w.drive.epoch w.drive.counter w.secret

-- after an accepted call on what the user holds: whether a discard adds to the counter goes by what is held
abbrev pub columns_after : World → Columns → Call → Columns
columns_after w k (mount any) = k
columns_after w k (write o bytes) = columns k.begun k.epoch (k.counter + pick (eqb (length bytes) 0) 0 1) k.secret
columns_after w k (begin secret) = columns true (k.epoch + 1) (k.counter + 1) secret
columns_after w k (sweep n) = columns k.begun k.epoch (k.counter + 1) k.secret
columns_after w k finish = columns false k.epoch (k.counter + 1) k.secret
columns_after w k (discard n first count) = columns k.begun k.epoch (k.counter + pick (none_held w n first count) 0 1) k.secret
columns_after w k (asks q) = k

-- "epochs are 1; the counter is the outside value plus 1"
abbrev pub ColumnsStart : Type 0
ColumnsStart = (start : Start) → columns_of (begun start) ≡ columns false 1 (start.outside + 1) start.secret

-- From there they follow from the calls that were accepted: a refused call changes none of them, an accepted one as above.
abbrev pub ColumnsFollow : Type 0
ColumnsFollow =
    (start : Start) (calls : List Call) (c : Call)
    → let w = history start calls in
    columns_of (step w c) ≡ pick (accepts (answer_to w c)) (columns_after w (columns_of w) c) (columns_of w)

-- and the nuggets left: all of them after an accepted begin, one less after an accepted sweep (SweepMoves)
abbrev pub BeginLeavesAll : Type 0
BeginLeavesAll =
    (start : Start) (calls : List Call) (secret : List ℕ)
    → let w = history start calls in
    answer_to w (begin secret) ≡ A.Accepted → nuggets_left (step w (begin secret)) ≡ w.drive.n

-- each call is accepted, on what those before it left
unfoldable pub all_accepted : World → List Call → Bool
all_accepted w [] = true
all_accepted w (c ∷ calls) = both (accepts (answer_to w c)) (all_accepted (step w c) calls)

-- a sweep of each nugget below k that is left
unfoldable pub sweeps_left : World → ℕ → List Call
sweeps_left w zero = []
sweeps_left w (suc k) = sweeps_left w k ++ pick (is_left w k) (sweep k ∷ []) []

-- what is to be done until the old secret may go: begin if it isn't begun, a sweep of each nugget left, finish
abbrev pub to_finish : World → List Call
to_finish w = sweeps_left w w.drive.n ++ (finish ∷ [])

abbrev pub change_to : List ℕ → World → List Call
change_to secret w = pick (changing w) (to_finish w) (begin secret ∷ to_finish (step w (begin secret)))

-- From any point of a history with room in counter and epoch a change of the secret comes to its end: all its calls are
-- accepted, and then the drive is steady; so by OldSecretFree the old secret is free.
abbrev pub Completes : Type 0
Completes =
    (start : Start) (calls : List Call) (secret : List ℕ)
    → let w = history start calls in
    w.drive.counter + w.drive.n + 2 < 2 ^ 64 → (changing w ≡ false → (w.drive.epoch < 65535) × (secret ≡ w.secret → ⊥))
    → (all_accepted w (change_to secret w) ≡ true) × (changing (run w (change_to secret w)) ≡ false)

-- In a steady drive the old secret is free: each present flake lies under a pad of the present secret, and a mount with
-- anything in its place is accepted and gives the very drive.
abbrev pub OldSecretFree : Type 0
OldSecretFree =
    (start : Start) (calls : List Call)
    → let w = history start calls in
    changing w ≡ false
    → ((n f : ℕ) (pad : Entry) → n < w.drive.n → bit (record_of (shape_of w.drive) w.vol n).held f ≡ true → last_of n f w.listing ≡ some pad → pad.secret ≡ w.secret)
    × ((any : List ℕ) → mount_done w.vol w.secret any w.outside ≡ record { answer = A.Accepted; drive = w.drive })

-- "Seal: keyed with the present secret, `H`, head bytes 0-71, node 1."
abbrev pub sealed_text : World → List ℕ
sealed_text w = seal_message (part 0 72 w.vol) w.drive.node

-- "Old-secret check: keyed with the old secret, `O`, salt, head epoch (2)."
abbrev pub checked_text : World → List ℕ
checked_text w = check_message w.drive.salt w.drive.epoch

-- two keys give a message the same BLAKE2s value
abbrev pub agree_on : List ℕ → List ℕ → List ℕ → Bool
agree_on message a b = same (blake2s a message) (blake2s b message)

-- A mount with any secrets and any outside counter. 4: the present secret is another; 5: while changing, the old one is; 6: the counter is.
abbrev pub mount_due : World → List ℕ → List ℕ → ℕ → Answer
mount_due w present old outside =
    A.Seal unless agree_on (sealed_text w) w.secret present
    else A.OldSecret unless either (not (changing w)) (agree_on (checked_text w) w.old old)
    else A.Counter unless eqb w.outside outside
    else A.Accepted

-- In every history such a mount answers this, and nothing else.
abbrev pub MountsExactly : Type 0
MountsExactly =
    (start : Start) (calls : List Call) (present old : List ℕ) (outside : ℕ)
    → let w = history start calls in
    mount_answer w.vol present old outside ≡ mount_due w present old outside

-- two different keyed messages with the same BLAKE2s value: two keys over one message
pub record KeyCollision (key other message : List ℕ) : Type 0 where
  pub differ : key ≡ other → ⊥
  pub agree : blake2s key message ≡ blake2s other message

-- While changing the old secret is needed, even with nothing left: a mount with another one is refused with 5, or else the two
-- are a collision over the check's message. So a share of 100.00 isn't leave to destroy it; only an accepted finish is.
abbrev pub OldSecretNeeded : Type 0
OldSecretNeeded =
    (start : Start) (calls : List Call) (other : List ℕ)
    → let w = history start calls in
    changing w ≡ true → (w.old ≡ other → ⊥)
    → (mount_answer w.vol w.secret other w.outside ≡ A.OldSecret) ⊎ KeyCollision w.old other (checked_text w)

-- "Report gives N, nuggets moved (epoch equal to the head's), left, flakes present, and share". The share is document 02's, Item
-- 1: "present flakes in moved nuggets × 10,000 / all present flakes, rounded down; with no flake present the nugget share
-- stands; while any nugget is left the figure is at most 99.99."
pub record TellsCounts (w : World) (r : Report) : Type 0 where
  pub accepted : r.answer ≡ A.Accepted
  pub nuggets : r.n ≡ w.drive.n
  pub moved : r.moved ≡ many w.drive.n (has_moved w)
  pub left : r.left ≡ nuggets_left w
  pub flakes : r.flakes ≡ sum w.drive.n (λ n. many w.drive.p (bit (record_of (shape_of w.drive) w.vol n).held))
  pub done : r.done ≡ sum w.drive.n (λ n. pick (has_moved w n) (many w.drive.p (bit (record_of (shape_of w.drive) w.vol n).held)) 0)
  pub share : (r.flakes ≡ 0 → ⊥) → r.share ≡ min (pick (eqb r.left 0) 10000 9999) (r.done * 10000 / r.flakes)
  pub empty : r.flakes ≡ 0 → r.share ≡ r.moved * 10000 / r.n

-- the report on what the user holds
abbrev pub report_on : World → Report
report_on w = report_of w.drive w.vol

abbrev pub ReportTells : Type 0
ReportTells = (start : Start) (calls : List Call) → TellsCounts (history start calls) (report_on (history start calls))

-- An accepted sweep raises the report's moved by one.
abbrev pub SweepMoves : Type 0
SweepMoves =
    (start : Start) (calls : List Call) (n : ℕ)
    → let w = history start calls in
    answer_to w (sweep n) ≡ A.Accepted → (report_on (step w (sweep n))).moved ≡ (report_on w).moved + 1
