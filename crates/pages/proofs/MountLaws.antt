-- What an accepted mount of the input tells, and how many nuggets an input can hold.
use mathlib.Core.Path.{◌≡◌, refl, sym, ap, ◌∙◌}
use mathlib.Core.Bool.{true, false}
use mathlib.Core.List.{List, [], ◌++◌, append-nil}
use mathlib.Core.Logic.{◌⊎◌, inl, inr}
use Prim.Native.Nat.{ℕ, ◌*◌, ◌≤◌}
use native.Mathlib.Nat.{mul-le-mul_left}
use native.Mathlib.Omega.{arith}
use lib.Dec.{leb}
use lib.ListN.{length, take, length-append, length-drop}
use lib.Seq.{length-sets, length-take-le}
use borrow.Author.Tests.{leb-true, eqb-true}
use Rattle.base.specs.Pick.{pick}
use Rattle.base.proofs.PickLaws.{yes, told, both_left, both_right}
use Rattle.answers.specs.Answer as A
use Rattle.answers.specs.Numbers.{accepts}
use Rattle.layout.specs.declared.Shape.{Shape}
use Rattle.layout.specs.Shape.{in_limits, leaves, width_of}
use Rattle.layout.specs.Parts.{length_of}
use Rattle.layout.proofs.Height.{leaves_enough}
use Rattle.layout.proofs.Limits.{Limits, limits, width_ge}
use Rattle.layout.specs.Shaped.{Shaped}
use Rattle.drive.specs.declared.Done.{Done}
use Rattle.drive.specs.Drive.{shape_of}
use Rattle.line.specs.Lines.{Put, refusal_line}
use Rattle.opening.specs.Mount.{shape_in, head_fits, length_fits, opened_drive, mount_answer, mount_done}
use Rattle.opening.proofs.HeadBack.{Opened, opened}
use Rattle.answers.proofs.StageLaws.{accepted_is}
use Rattle.sheets.specs.Sheet.{present_in, old_in, outside_in, volume_in, input_sized, mounted_text, mounted_by, sheet_line}
use Rattle.sheets.proofs.SheetLaws.{mounted-short, sheet-short}
use Rattle.pages.specs.Page.{mounts, nugget_lines, counter_line, old_line, drive_text, audit_page}
use Rattle.pages.proofs.PageLaws.{lines_le, counter-le, old-le}

-- the drive of an accepted mount is the opened one
pub mounted-drive : (i : List ℕ) → accepts (mounted_by i).answer ≡ true → (mounted_by i).drive ≡ opened_drive (volume_in i) (present_in i) (old_in i)
unfolding mounted_by mount_done
mounted-drive i h = yes _ h refl

pub mounted-answer : (i : List ℕ) → accepts (mounted_by i).answer ≡ true → mount_answer (volume_in i) (present_in i) (old_in i) (outside_in i) ≡ A.Accepted
unfolding mounted_by mount_done
mounted-answer i h = accepted_is (mount_answer (volume_in i) (present_in i) (old_in i) (outside_in i)) h

pub opened_lent : (v present old : List ℕ) (outside : ℕ) → Opened v (opened_drive v present old) outside → Shaped (shape_of (opened_drive v present old)) v
unfolding opened_drive head_fits length_fits
opened_lent v present old outside o =
    record { limited = both_left (in_limits (shape_in v)) _ o.fits; size = eqb-true (length v) (length_of (shape_in v)) o.long }

pub mounted_lent : (i : List ℕ) → accepts (mounted_by i).answer ≡ true → Shaped (shape_of (mounted_by i).drive) (volume_in i)
mounted_lent i h =
    rw (mounted-drive i h) (opened_lent (volume_in i) (present_in i) (old_in i) (outside_in i) (opened (volume_in i) (present_in i) (old_in i) (outside_in i) (mounted-answer i h)))

-- a nugget takes at least 162 bytes: its record, a tag, two nodes and a flake
pub few_nuggets : (s : Shape) (v : List ℕ) → Shaped s v → length v ≤ 61440 → s.n ≤ 378
few_nuggets s v l h =
    let m : Limits s = limits s l.limited in
    let flakes : s.n * 1 ≤ s.n * s.p = mul-le-mul_left s.n m.flakes in
    let bytes : s.n * s.p * 64 ≤ s.n * s.p * s.f = mul-le-mul_left (s.n * s.p) m.wide in
    let records : s.n * 18 ≤ s.n * width_of s = mul-le-mul_left s.n (width_ge s) in
    let tree : s.n ≤ leaves s.n = leaves_enough s.n (omega (arith, m.few)) in
    omega (arith, l.size)

pub volume-le : (i : List ℕ) → input_sized i ≡ true → length (volume_in i) ≤ 61440
unfolding input_sized
volume-le i h = omega (arith, length-drop 72 i, leb-true (length i) 61512 (both_right (leb 72 (length i)) _ h))

-- the room that a mounted drive's lines need
pub mounted-room : (i : List ℕ) {m : Done} {v : List ℕ} → input_sized i ≡ true → m ≡ mounted_by i → v ≡ volume_in i → accepts m.answer ≡ true
    → Shaped (shape_of m.drive) v × (m.drive.n ≤ 378)
mounted-room i h em ev a =
    let b : accepts (mounted_by i).answer ≡ true = rw em at a in
    let l = mounted_lent i b in
    rw (em, ev) (l, few_nuggets (shape_of (mounted_by i).drive) (volume_in i) l (volume-le i h))

-- the page, by the size of the input and the mount's answer
pub page_refused : (i : List ℕ) → input_sized i ≡ false → refusal_line A.Length ≡ audit_page i
unfolding audit_page sheet_line mounts
page_refused i h = rw h (sym (append-nil (refusal_line A.Length)))

pub page_alone : (i : List ℕ) {m : Done} {v : List ℕ} → input_sized i ≡ true → m ≡ mounted_by i → v ≡ volume_in i → accepts m.answer ≡ false
    → mounted_text m v ≡ audit_page i
unfolding audit_page sheet_line mounts
page_alone i h em ev a =
    let b : accepts (mounted_by i).answer ≡ false = rw em at a in
    rw (h, b, em, ev) (sym (append-nil (mounted_text (mounted_by i) (volume_in i))))

pub page_whole : (i : List ℕ) {m : Done} {v : List ℕ} {o : ℕ} → input_sized i ≡ true → m ≡ mounted_by i → v ≡ volume_in i → o ≡ outside_in i
    → accepts m.answer ≡ true → mounted_text m v ++ drive_text m.drive v o ≡ audit_page i
unfolding audit_page sheet_line mounts
page_whole i h em ev eo a =
    let b : accepts (mounted_by i).answer ≡ true = rw em at a in
    rw (h, b, em, ev, eo)

-- how far the sheet's line reaches
pub mounted_reach : (m : Done) (v : List ℕ) {s x : List ℕ} {r : ℕ} → Put s 0 (mounted_text m v) r x → r ≤ 106
mounted_reach m v f = omega (arith, f.behind, mounted-short m v)

lines_short : (i : List ℕ) → mounts i ≡ true → length (drive_text (mounted_by i).drive (volume_in i) (outside_in i)) ≤ 113440
unfolding mounts drive_text
lines_short i h =
    let d = (mounted_by i).drive in
    let room = mounted-room i (both_left (input_sized i) _ h) refl refl (both_right (input_sized i) _ h) in
    let narrow = (limits (shape_of d) room.0.limited).narrow in
    omega (arith, room.1, lines_le d (volume_in i) d.n narrow, length-append (nugget_lines d (volume_in i) d.n) (counter_line (outside_in i) ++ old_line d), length-append (counter_line (outside_in i)) (old_line d), counter-le (outside_in i), old-le d)

-- no page is longer
pub page_short : (i : List ℕ) → length (audit_page i) ≤ 113546
unfolding audit_page
page_short i = go (told (mounts i))
  where
    go : (mounts i ≡ true) ⊎ (mounts i ≡ false) → length (sheet_line i ++ pick (mounts i) (drive_text (mounted_by i).drive (volume_in i) (outside_in i)) []) ≤ 113546
    go (inl e) = rw e (omega (arith, length-append (sheet_line i) (drive_text (mounted_by i).drive (volume_in i) (outside_in i)), sheet-short i, lines_short i e))
    go (inr e) = rw e (omega (arith, length-append (sheet_line i) [], sheet-short i))

-- so it stands whole in the room that is asked for
pub page_fits : (i : List ℕ) {s x : List ℕ} {k : ℕ} → 114688 ≤ length s → Put s 0 (audit_page i) k x → (k ≤ length x) × (k ≡ length (take k x))
page_fits i {s} {x} {k} h f =
    let long : length x ≡ length s = ap length f.stored ∙ length-sets s 0 (audit_page i) in
    let fits : k ≤ length x = omega (arith, f.behind, page_short i) in
    (fits, sym (length-take-le k x fits))
