-- Document 02, Item 9, over every history: "Building it, and renewing one path after each change, gives the same summary as
-- building it afresh; a begin rebuilds it." Each statement is proved, under the same name in small letters, in proofs/.
use Rattle.std.specs.Prelude.{ℕ, ◌*◌, ◌<◌, ◌≤◌, ◌≡◌, Bool, true, false, not, List, eqb, ltb, length}
use Rattle.base.specs.Pick.{both}
use Rattle.answers.specs.Answer as A
use Rattle.answers.specs.Numbers.{accepts}
use Rattle.layout.specs.Shape.{leaves}
use Rattle.drive.specs.Drive.{shape_of}
use Rattle.nuggets.specs.Touched.{touched_of}
use Rattle.summaries.specs.Entries.{summary_length, entry_in, listed}
use Rattle.summaries.specs.Calls.{top_answer, top_report, build_answer, build_summary, renew_answer, renew_each, BelongsTo}
use Rattle.history.specs.World.{World, Call, mount, write, begin, sweep, finish, discard, asks}
use Rattle.history.specs.Step.{answer_to, step, changes_by}
use Rattle.history.specs.History.{Start, run, history, among}
use Rattle.history.specs.Answers.{◌unless◌else◌, report_on}

-- "the summary that belongs to it"
abbrev pub Belonging : World → List ℕ → Type 0
Belonging w b = BelongsTo w.drive w.vol b

-- the nuggets that a call names: those of which a write touches a flake, the one that a sweep moves or a discard clears
abbrev pub names : World → Call → ℕ → Bool
names w (mount any) n = false
names w (write o bytes) n = not (eqb (touched_of (shape_of w.drive) o (length bytes) n) 0)
names w (begin secret) n = false
names w (sweep m) n = eqb n m
names w finish n = false
names w (discard m first count) n = eqb n m
names w (asks q) n = false

-- nugget n is changed by one of the calls: an accepted change that names it
abbrev pub changed_by : World → List Call → ℕ → Bool
changed_by w calls n = among (λ u c. both (changes_by u c) (names u c n)) w calls

-- an accepted begin
abbrev pub begins : World → Call → Bool
begins w (mount any) = false
begins w (write o bytes) = false
begins w (begin secret) = accepts (answer_to w (begin secret))
begins w (sweep n) = false
begins w finish = false
begins w (discard n first count) = false
begins w (asks q) = false

abbrev pub begun_by : World → List Call → Bool
begun_by w calls = among begins w calls

-- what a building, a renewing and a top report answer, and nothing else: no test calls an untouched volume altered
pub record SummaryAnswers (w : World) (len n : ℕ) : Type 0 where
  pub top : top_answer w.drive w.vol len ≡ (A.Length unless eqb len (summary_length w.drive.n) else A.Accepted)
  pub build : build_answer w.drive w.vol len ≡ (A.Length unless eqb len (summary_length w.drive.n) else A.Accepted)
  pub renew : renew_answer w.drive w.vol len n
      ≡ (A.Length unless eqb len (summary_length w.drive.n) else A.PastEnd unless ltb n w.drive.n else A.Accepted)

abbrev pub SummariesExactly : Type 0
SummariesExactly = (start : Start) (calls : List Call) (len n : ℕ) → SummaryAnswers (history start calls) len n

-- "A report from the top entry equals the full report"
abbrev pub TopReports : Type 0
TopReports =
    (start : Start) (calls : List Call) (b : List ℕ)
    → let w = history start calls in
    Belonging w b → top_report w.drive w.vol b ≡ report_on w

-- what is built belongs
abbrev pub BuildBelongs : Type 0
BuildBelongs =
    (start : Start) (calls : List Call) (b : List ℕ)
    → let w = history start calls in
    length b ≡ summary_length w.drive.n → Belonging w (build_summary w.drive w.vol b)

-- After any calls without an accepted begin: renewing the path of each changed nugget, in any order and others too, gives the
-- summary that building gives, and it belongs. A queue is its writes, so this is said of queues.
abbrev pub RenewsAfter : Type 0
RenewsAfter =
    (start : Start) (calls more : List Call) (ns b : List ℕ)
    → let w = history start calls in
    let u = run w more in
    begun_by w more ≡ false → ((n : ℕ) → n < w.drive.n → changed_by w more n ≡ true → listed ns n ≡ true) → ((n : ℕ) → listed ns n ≡ true → n < w.drive.n)
    → Belonging w b
    → Belonging u (renew_each u.drive u.vol ns b) × (renew_each u.drive u.vol ns b ≡ build_summary u.drive u.vol b)

-- A summary still belongs after every call that changes no nugget and isn't an accepted begin: a finish, a mount, an ask, whatever
-- is refused.
abbrev pub StillBelongs : Type 0
StillBelongs =
    (start : Start) (calls : List Call) (c : Call) (b : List ℕ)
    → let w = history start calls in
    begins w c ≡ false → ((n : ℕ) → n < w.drive.n → both (changes_by w c) (names w c n) ≡ false) → Belonging w b → Belonging (step w c) b

-- After an accepted begin every entry of the summary that belongs has no moved nugget and no flake done,
abbrev pub BeginEmpties : Type 0
BeginEmpties =
    (start : Start) (calls : List Call) (secret b : List ℕ)
    → let w = history start calls in
    answer_to w (begin secret) ≡ A.Accepted → Belonging (step w (begin secret)) b
    → (i : ℕ) → 1 ≤ i → i < 2 * leaves w.drive.n → ((entry_in b i).moved ≡ 0) × ((entry_in b i).done ≡ 0)

-- so none that belonged before belongs any more: the caller builds again.
abbrev pub BeginSpoils : Type 0
BeginSpoils =
    (start : Start) (calls : List Call) (secret b : List ℕ)
    → let w = history start calls in
    answer_to w (begin secret) ≡ A.Accepted → Belonging w b → Belonging (step w (begin secret)) b → ⊥
