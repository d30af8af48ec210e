-- The auditor's page. Her first question was: "Which flakes were under which key when the sheet was printed?"
-- The sheet's line; then, if the volume mounts, one line for each nugget, ascending; then the outside counter;
-- at last whether the old secret may go.
use Rattle.std.specs.Prelude.{ℕ, zero, suc, Bool, true, false, List, [], ◌∷◌, ◌++◌, eqb}
use Rattle.base.specs.Pick.{pick, both}
use Rattle.answers.specs.Numbers.{accepts}
use Rattle.records.specs.declared.Record.{Record}
use Rattle.records.specs.Journal.{bit}
use Rattle.drive.specs.declared.Drive.{Drive}
use Rattle.drive.specs.Drive.{shape_of, is_changing}
use Rattle.records.specs.Record.{record_of}
use Rattle.line.specs.Decimal.{decimal, long_decimal}
use Rattle.line.specs.Texts.{t_flakes}
use Rattle.line.specs.Lines.{newline}
use Rattle.sheets.specs.Sheet.{input_sized, mounted_by, volume_in, outside_in, sheet_line}
use Rattle.pages.specs.Words.{t_nugget, t_key_is, t_new, t_old, t_present, t_epoch, t_keycount, t_counter, t_secret, t_needed, t_free, t_none}

-- "its epoch is the head's, or, while changing, the head's or one less. [..] One less means: under the old secret."
unfoldable pub key_text : Drive → ℕ → List ℕ
key_text d e = pick (eqb e d.epoch) (pick (is_changing d.state) t_new t_present) t_old

-- "Bit f of a journal (lowest first) says that flake f is present": the present flakes below p, ascending
unfoldable pub present_flakes : ℕ → ℕ → List ℕ
present_flakes zero j = []
present_flakes (suc p) j = present_flakes p j ++ pick (bit j p) (p ∷ []) []

-- each behind a comma
unfoldable pub others : List ℕ → List ℕ
others [] = []
others (f ∷ fs) = (44 ∷ decimal f) ++ others fs

-- `0,1`; `-` if there is none
unfoldable pub flakes_text : List ℕ → List ℕ
flakes_text [] = t_none
flakes_text (f ∷ fs) = decimal f ++ others fs

-- a flake's sign: `=` before the first, `,` before the others
abbrev pub sign_for : Bool → List ℕ
sign_for true = 61 ∷ []
sign_for false = 44 ∷ []

-- `=0,1`: each behind its sign; nothing if there is none
unfoldable pub with_signs : List ℕ → List ℕ
with_signs [] = []
with_signs (f ∷ fs) = (61 ∷ decimal f) ++ others fs

-- `nugget=2 key=old epoch=1 keycount=0 flakes=0,1`
unfoldable pub nugget_text : Drive → Record → ℕ → List ℕ
nugget_text d r n =
    t_nugget
    ++ (decimal n
    ++ (t_key_is
    ++ (key_text d r.epoch
    ++ (t_epoch
    ++ (decimal r.epoch
    ++ (t_keycount ++ (long_decimal r.keycount ++ (t_flakes ++ flakes_text (present_flakes d.p r.held)))))))))

abbrev pub nugget_line : Drive → Record → ℕ → List ℕ
nugget_line d r n = nugget_text d r n ++ newline

-- the lines of the first k nuggets
unfoldable pub nugget_lines : Drive → List ℕ → ℕ → List ℕ
nugget_lines d v zero = []
nugget_lines d v (suc k) = nugget_lines d v k ++ nugget_line d (record_of (shape_of d) v k) k

-- `counter=5`: the outside counter that the head's counter was held against
abbrev pub counter_text : ℕ → List ℕ
counter_text outside = t_counter ++ long_decimal outside

abbrev pub counter_line : ℕ → List ℕ
counter_line outside = counter_text outside ++ newline

-- "Mount takes both secrets (the old one unused when steady)": whether a mount still asks for the old one
unfoldable pub old_state : Drive → List ℕ
old_state d = pick (is_changing d.state) t_needed t_free

-- `old=needed`
abbrev pub old_text : Drive → List ℕ
old_text d = t_secret ++ old_state d

abbrev pub old_line : Drive → List ℕ
old_line d = old_text d ++ newline

-- what a mounted drive adds to the sheet's line
unfoldable pub drive_text : Drive → List ℕ → ℕ → List ℕ
drive_text d v outside = nugget_lines d v d.n ++ (counter_line outside ++ old_line d)

-- the input's volume mounts
unfoldable pub mounts : List ℕ → Bool
mounts i = both (input_sized i) (accepts (mounted_by i).answer)

-- the page for any input: a refusal is the sheet's refusal line alone
unfoldable pub audit_page : List ℕ → List ℕ
audit_page i = sheet_line i ++ pick (mounts i) (drive_text (mounted_by i).drive (volume_in i) (outside_in i)) []
