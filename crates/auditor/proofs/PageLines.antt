-- The lines of a page, one after another.
use mathlib.Core.Path.{◌≡◌, refl, ap, ◌∙◌}
use mathlib.Core.Bool.{true, false}
use mathlib.Core.Logic.{◌⊎◌, inl, inr}
use mathlib.Core.List.{List, [], ◌++◌, append_assoc}
use Prim.Native.Nat.{ℕ, zero, suc, ◌<◌, ◌≤◌}
use native.Mathlib.Omega.{arith}
use lib.Dec.{eqb}
use borrow.Author.Tests.{eqb-true, eqb-false}
use Rattle.base.proofs.PickLaws.{told}
use Rattle.drive.specs.Drive.{shape_of}
use Rattle.drive.specs.declared.Drive.{Drive}
use Rattle.line.specs.Lines.{newline, report_text, report_line}
use Rattle.line.specs.Reading.{up_to, past, lines_from, line_at}
use Rattle.line.proofs.ReadLaws.{free, up_to_lem, past_to}
use Rattle.line.proofs.FieldLaws.{report-free}
use Rattle.pages.specs.Page.{nugget_text, nugget_line, nugget_lines}
use Rattle.records.specs.Record.{record_of}

-- a text that ends in its only newline
abbrev pub Line : List ℕ → Type 0
Line l = (rest : List ℕ) → (past 10 (l ++ rest) ≡ rest) × (up_to 10 (l ++ rest) ++ newline ≡ l)

-- a line of known text
pub line-ends : (l rest : List ℕ) → free 10 l ≡ true → past 10 ((l ++ newline) ++ rest) ≡ rest
line-ends l rest f = rw (append_assoc l newline rest) (past_to 10 l rest f)

pub line_text : (l rest : List ℕ) → free 10 l ≡ true → up_to 10 ((l ++ newline) ++ rest) ≡ l
line_text l rest f = rw (append_assoc l newline rest) (up_to_lem 10 l rest f)

-- the sheet's line is one
pub report_is_line : (n m l k h d : ℕ) → Line (report_line n m l k h d)
report_is_line n m l k h d rest =
    let free = report-free n m l k h d in
    (line-ends (report_text n m l k h d) rest free, ap (λ (t : List ℕ). t ++ newline) (line_text (report_text n m l k h d) rest free))

pub last-ends : (l : List ℕ) → free 10 l ≡ true → past 10 (l ++ newline) ≡ []
last-ends l f = past_to 10 l [] f

pub last_text : (l : List ℕ) → free 10 l ≡ true → up_to 10 (l ++ newline) ≡ l
last_text l f = up_to_lem 10 l [] f

pub from_next : (k : ℕ) (t : List ℕ) → lines_from (suc k) t ≡ past 10 (lines_from k t)
unfolding lines_from
from_next zero t = refl
from_next (suc k) t = from_next k (past 10 t)

module _ (d : Drive) (v : List ℕ) (count : ℕ) (plain : (k : ℕ) → k < count → free 10 (nugget_text d (record_of (shape_of d) v k) k) ≡ true) where
  -- all lines of the first k nuggets passed
  pub lines_through : (k : ℕ) (rest : List ℕ) → k ≤ count → lines_from k (nugget_lines d v k ++ rest) ≡ rest
  unfolding nugget_lines lines_from
  lines_through zero rest h = refl
  lines_through (suc k) rest h =
      let line = nugget_line d (record_of (shape_of d) v k) k in
      let before : lines_from k ((nugget_lines d v k ++ line) ++ rest) ≡ line ++ rest = rw (append_assoc (nugget_lines d v k) line rest) (lines_through k (line ++ rest) (omega arith)) in
      from_next k ((nugget_lines d v k ++ line) ++ rest) ∙ ap (past 10) before ∙ line-ends (nugget_text d (record_of (shape_of d) v k) k) rest (plain k (omega arith))

  -- the line of nugget n, with what stands before and behind it
  lines_split : (n k : ℕ) (rest : List ℕ) → n < k → (more : List ℕ) × (nugget_lines d v k ++ rest ≡ nugget_lines d v n ++ (nugget_line d (record_of (shape_of d) v n) n ++ more))
  unfolding nugget_lines
  lines_split n zero rest h = absurd (omega arith)
  lines_split n (suc k) rest h = go (told (eqb n k)) (λ l. lines_split n k (nugget_line d (record_of (shape_of d) v k) k ++ rest) l)
    where
      go : (eqb n k ≡ true) ⊎ (eqb n k ≡ false)
          → (n < k → (more : List ℕ) × (nugget_lines d v k ++ (nugget_line d (record_of (shape_of d) v k) k ++ rest) ≡ nugget_lines d v n ++ (nugget_line d (record_of (shape_of d) v n) n ++ more)))
          → (more : List ℕ) × ((nugget_lines d v k ++ nugget_line d (record_of (shape_of d) v k) k) ++ rest ≡ nugget_lines d v n ++ (nugget_line d (record_of (shape_of d) v n) n ++ more))
      go (inl e) again =
          (rest, rw (eqb-true n k e) (append_assoc (nugget_lines d v k) (nugget_line d (record_of (shape_of d) v k) k) rest))
      go (inr e) again =
          let s = again (omega (arith, eqb-false n k e)) in
          (s.0, append_assoc (nugget_lines d v k) (nugget_line d (record_of (shape_of d) v k) k) rest ∙ s.1)

  pub nugget_line_lem : (n : ℕ) (rest : List ℕ) → n < count → line_at n (nugget_lines d v count ++ rest) ≡ nugget_text d (record_of (shape_of d) v n) n
  nugget_line_lem n rest h =
      let s = lines_split n count rest h in
      let line = nugget_line d (record_of (shape_of d) v n) n in
      ap (λ (t : List ℕ). line_at n t) s.1 ∙ ap (up_to 10) (lines_through n (line ++ s.0) (omega arith)) ∙ line_text (nugget_text d (record_of (shape_of d) v n) n) s.0 (plain n h)
