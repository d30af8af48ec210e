-- The auditor's first question over every history: "Which flakes were under which key when the sheet was printed?" The page
-- answers with what was listed. Each statement is proved, under the same name in small letters, in proofs/Answered.antt.
use Rattle.std.specs.Prelude.{ℕ, ◌<◌, ◌≤◌, ◌≡◌, true, List, ◌++◌, length}
use Rattle.base.specs.Pick.{pick}
use Rattle.base.specs.Lists.{same}
use Rattle.words.specs.Le.{le}
use Rattle.answers.specs.Answer as A
use Rattle.records.specs.Journal.{bit}
use Rattle.drive.specs.Drive.{shape_of, is_changing}
use Rattle.records.specs.Record.{record_of}
use Rattle.nuggets.specs.Nugget.{secret_for}
use Rattle.opening.specs.Mount.{mount_done}
use Rattle.pages.specs.Words.{t_old, t_needed, t_free}
use Rattle.pages.specs.Page.{audit_page}
use Rattle.auditor.specs.Reading.{told_of, old_told, times_listed}
use Rattle.history.specs.World.{World, Call}
use Rattle.history.specs.Step.{old_for}
use Rattle.history.specs.History.{Start, history}
use Rattle.history.specs.Demands.{LastPad}

-- "present secret, old secret, outside counter (8 bytes), then a volume": what the user holds; when steady anything as the old secret
unfoldable pub input_for : World → List ℕ → List ℕ
input_for w any = w.secret ++ (old_for w any ++ (le 8 w.outside ++ w.vol))

-- The page takes it: secrets of 32 bytes and "a volume of at most 61,440 bytes".
pub record PageTakes (w : World) (any : List ℕ) : Type 0 where
  pub secret : length w.secret ≡ 32
  pub old : length (old_for w any) ≡ 32
  pub small : length w.vol ≤ 61440

abbrev pub page_for : World → List ℕ → List ℕ
page_for w any = audit_page (input_for w any)

-- the secret that a word of the page names, of those that the user holds
abbrev pub secret_by : World → List ℕ → List ℕ
secret_by w word = pick (same word t_old) w.old w.secret

-- What is read off nugget n's line of the page is the pad last listed for flake f: the flake is listed, once; the keycount is the
-- pad's; the pad's secret is the one that the key's word names, and the one of the epoch.
pub record TellsPad (page : List ℕ) (w : World) (n f : ℕ) : Type 0 where
  pub last : LastPad w n f
  pub listed : times_listed f (told_of page n).flakes ≡ 1
  pub keycount : (told_of page n).keycount ≡ last.pad.keycount
  pub key : secret_by w (told_of page n).key ≡ last.pad.secret
  pub epoch : secret_for w.drive (told_of page n).epoch ≡ last.pad.secret

-- Each present flake is told with the pad last listed for it.
abbrev pub PageTellsPads : Type 0
PageTellsPads =
    (start : Start) (calls : List Call) (any : List ℕ) (n f : ℕ)
    → let w = history start calls in
    PageTakes w any → n < w.drive.n → f < w.drive.p → bit (record_of (shape_of w.drive) w.vol n).held f ≡ true → TellsPad (page_for w any) w n f

-- And no other flake is told: one that the page lists is present.
abbrev pub PageTellsNoOthers : Type 0
PageTellsNoOthers =
    (start : Start) (calls : List Call) (any : List ℕ) (n f : ℕ)
    → let w = history start calls in
    PageTakes w any → n < w.drive.n → 0 < times_listed f (told_of (page_for w any) n).flakes → (f < w.drive.p) × (bit (record_of (shape_of w.drive) w.vol n).held f ≡ true)

-- The page's last line goes by the state alone: while changing it is `old=needed`, with a share of 100.00 too.
abbrev pub PageTellsOld : Type 0
PageTellsOld =
    (start : Start) (calls : List Call) (any : List ℕ)
    → let w = history start calls in
    PageTakes w any → old_told (page_for w any) w.drive.n ≡ pick (is_changing w.drive.state) t_needed t_free

-- Nothing needs the old secret: each present flake is under the present one, and a mount with anything as the old one gives the very drive.
pub record Free (w : World) : Type 0 where
  pub pads : (n f : ℕ) → n < w.drive.n → bit (record_of (shape_of w.drive) w.vol n).held f ≡ true → (l : LastPad w n f) → l.pad.secret ≡ w.secret
  pub mounts : (other : List ℕ) → mount_done w.vol w.secret other w.outside ≡ record { answer = A.Accepted; drive = w.drive }

-- `old=free` is leave to destroy the old secret.
abbrev pub FreeIsFree : Type 0
FreeIsFree =
    (start : Start) (calls : List Call) (any : List ℕ)
    → let w = history start calls in
    PageTakes w any → old_told (page_for w any) w.drive.n ≡ t_free → Free w
