-- The auditor's first question: "Which flakes were under which key when the sheet was printed?"
use Rattle.std.specs.Prelude.{ℕ, suc, ◌+◌, ◌<◌, ◌≤◌, ◌≡◌, List, [], ◌++◌, eqb}
use Rattle.base.specs.Pick.{pick}
use Rattle.base.specs.Lists.{same}
use Rattle.records.specs.Journal.{bit}
use Rattle.keys.specs.Keys.{nugget_key}
use Rattle.drive.specs.declared.Drive.{Drive}
use Rattle.drive.specs.Drive.{shape_of, is_changing}
use Rattle.nuggets.specs.Nugget.{lock_for}
use Rattle.reports.specs.Report.{report_of}
use Rattle.line.specs.Lines.{newline, report_line}
use Rattle.pages.specs.Words.{t_new, t_old, t_present, t_needed, t_free}
use Rattle.line.specs.Reading.{lines_from, line_at}
use Rattle.auditor.specs.Reading.{told_of, counter_told, old_told, times_listed}
use Rattle.records.specs.Record.{record_of}

-- "One less means: under the old secret": `old` exactly if the epoch is one less than the head's. Else it is `new`, in a steady drive `present`.
unfoldable pub key_word : Drive → ℕ → List ℕ
key_word d e = pick (eqb (e + 1) d.epoch) t_old (pick (is_changing d.state) t_new t_present)

-- the secret that a word of the page names
unfoldable pub secret_named : Drive → List ℕ → List ℕ
secret_named d word = pick (same word t_old) d.old d.present

-- the page answers it for the mounted drive: what is read off it is what the records say
pub record Answers (page : List ℕ) (d : Drive) (v : List ℕ) (outside : ℕ) : Type 0 where
  -- the first line is the sheet's, with the report's numbers
  pub sheet : let r = report_of d v in line_at 0 page ++ newline ≡ report_line r.n r.moved r.left r.flakes r.share r.done
  -- then each nugget in turn: its number, its epoch and its keycount
  pub nugget : (n : ℕ) → n < d.n → (told_of page n).nugget ≡ n
  pub epoch : (n : ℕ) → n < d.n → (told_of page n).epoch ≡ (record_of (shape_of d) v n).epoch
  pub keycount : (n : ℕ) → n < d.n → (told_of page n).keycount ≡ (record_of (shape_of d) v n).keycount
  -- "which flakes": a flake is listed exactly once if its bit is set, and else not at all
  pub flakes : (n f : ℕ) → n < d.n → f < d.p → times_listed f (told_of page n).flakes ≡ pick (bit (record_of (shape_of d) v n).held f) 1 0
  pub no_others : (n f : ℕ) → n < d.n → d.p ≤ f → times_listed f (told_of page n).flakes ≡ 0
  -- "under which key": the word is that of the record's epoch, and the nugget's key is made from the secret that the word names
  pub word : (n : ℕ) → n < d.n → (told_of page n).key ≡ key_word d (record_of (shape_of d) v n).epoch
  pub key : (n : ℕ) → n < d.n → (lock_for d v n).key ≡ nugget_key (secret_named d (told_of page n).key) d.salt n
  -- then the outside counter, which is the head's
  pub counter : counter_told page d.n ≡ outside
  pub held : d.counter ≡ outside
  -- at last whether the old secret may go: it is needed exactly while changing; nothing follows
  pub old : old_told page d.n ≡ pick (is_changing d.state) t_needed t_free
  pub ends : lines_from (suc (suc (suc d.n))) page ≡ []
