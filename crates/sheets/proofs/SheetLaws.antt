-- The pieces of the input, and how long the line can be.
use mathlib.Core.Path.{◌≡◌, sym, ap, ◌∙◌}
use mathlib.Core.Bool.{Bool, true, false}
use mathlib.Core.List.{List}
use Prim.Native.Nat.{ℕ, ◌-◌, ◌<◌, ◌≤◌}
use native.Mathlib.Omega.{arith}
use native.Mathlib.Nat.{le_refl}
use lib.Dec.{leb}
use lib.ListN.{length, take, drop, length-append, length-take, length-drop}
use lib.Seq.{take_all, length-sets, length-take-le}
use borrow.Author.Tests.{le-leb, lt-leb, leb-true}
use Rattle.base.specs.Pick.{pick}
use Rattle.base.proofs.PickLaws.{both-on, both_left}
use Rattle.answers.specs.Answer.{Answer}
use Rattle.answers.specs.Answer as A
use Rattle.answers.specs.Numbers.{number_of, carried_of, accepts}
use Rattle.answers.specs.Classes.{class_of}
use Rattle.line.specs.Lines.{Put, newline, report_text, report_line, refusal_line}
use Rattle.line.proofs.PutLaws.{decimal-le, report-le, class_le, carried-le}
use Rattle.drive.specs.declared.Done.{Done}
use Rattle.opening.specs.Mount.{mount_done}
use Rattle.reports.specs.declared.told.Report.{Report}
use Rattle.reports.specs.Report.{report_of}
use Rattle.sheets.specs.Sheet.{present_in, old_in, outside_in, volume_in, input_sized, reported_line, mounted_text, mounted_by, sheet_line}

-- the volume is all that follows
pub volume-taken : (i : List ℕ) → take (length i - 72) (drop 72 i) ≡ volume_in i
volume-taken i = take_all (length i - 72) (drop 72 i) (rw (length-drop 72 i) (le_refl (length i - 72)))

-- an input of a right size has its secrets and the counter
pub sized_ge : (i : List ℕ) → input_sized i ≡ true → 72 ≤ length i
unfolding input_sized
sized_ge i h = leb-true 72 (length i) (both_left (leb 72 (length i)) _ h)

-- an input that fills a buffer of one byte more is too long
pub over-long : (read : ℕ) (b : List ℕ) → 61513 ≤ length b → 61512 < read → input_sized (take read b) ≡ false
unfolding input_sized
over-long read b h k =
    let long : 61513 ≤ length (take read b) = simp length-take (omega (arith, h, k)) in
    both-on (le-leb 72 (length (take read b)) (omega (arith, long))) (lt-leb (length (take read b)) 61512 (omega (arith, long)))

-- the mount of the input's pieces
pub mounted_is : (i : List ℕ) {v p o : List ℕ} {k : ℕ} {r : Done} → v ≡ volume_in i → p ≡ present_in i → o ≡ old_in i → k ≡ outside_in i
    → r ≡ mount_done v p o k → r ≡ mounted_by i
unfolding mounted_by
mounted_is i ev ep eo ek er = rw (er, ek, eo, ep, ev)

pub mounted-told : (i : List ℕ) {m : Done} {v : List ℕ} → m ≡ mounted_by i → v ≡ volume_in i → mounted_text m v ≡ mounted_text (mounted_by i) (volume_in i)
mounted-told i em ev = rw (em, ev)

pub report-short : (n m l k h d : ℕ) → length (report_line n m l k h d) ≤ 106
report-short n m l k h d = omega (arith, length-append (report_text n m l k h d) newline, report-le n m l k h d)

pub refusal_short : (a : Answer) → length (refusal_line a) ≤ 106
unfolding refusal_line
refusal_short a = simp length-append (omega (arith, decimal-le (number_of a), class_le (class_of (number_of a)), carried-le (carried_of a)))

pick-short : (b : Bool) (x y : List ℕ) (m : ℕ) → length x ≤ m → length y ≤ m → length (pick b x y) ≤ m
pick-short true x y m p q = p
pick-short false x y m p q = q

pub told-short : (r : Report) → length (reported_line r) ≤ 106
unfolding reported_line
told-short r =
    pick-short (accepts r.answer) (report_line r.n r.moved r.left r.flakes r.share r.done) (refusal_line r.answer) 106 (report-short r.n r.moved r.left r.flakes r.share r.done) (refusal_short r.answer)

-- no line is longer
pub mounted-short : (m : Done) (v : List ℕ) → length (mounted_text m v) ≤ 106
unfolding mounted_text
mounted-short m v =
    pick-short (accepts m.answer) (reported_line (report_of m.drive v)) (refusal_line m.answer) 106 (told-short (report_of m.drive v)) (refusal_short m.answer)

pub sheet-short : (i : List ℕ) → length (sheet_line i) ≤ 106
unfolding sheet_line
sheet-short i =
    pick-short (input_sized i) (mounted_text (mounted_by i) (volume_in i)) (refusal_line A.Length) 106 (mounted-short (mounted_by i) (volume_in i)) (refusal_short A.Length)

-- so it stands whole in 128 bytes
pub text_fits : (text : List ℕ) → length text ≤ 106 → {s x : List ℕ} {k : ℕ} → 128 ≤ length s → Put s 0 text k x → (k ≤ length x) × (k ≡ length (take k x))
text_fits text short {s} {x} {k} h f =
    let long : length x ≡ length s = ap length f.stored ∙ length-sets s 0 text in
    let fits : k ≤ length x = omega (arith, f.behind, short) in
    (fits, sym (length-take-le k x fits))

pub line-fits : (i : List ℕ) {s x : List ℕ} {k : ℕ} → 128 ≤ length s → Put s 0 (sheet_line i) k x → (k ≤ length x) × (k ≡ length (take k x))
line-fits i = text_fits (sheet_line i) (sheet-short i)
