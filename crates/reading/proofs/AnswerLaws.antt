-- The answer of a read: one turn over its nuggets, and what an accepted one says of the volume.
use mathlib.Core.Path.{◌≡◌, refl, sym, ap, ◌∙◌}
use mathlib.Core.Bool.{true, false}
use mathlib.Core.Logic.{⊎_elim}
use mathlib.Core.List.{List}
use Prim.Native.Nat.{ℕ, suc, ◌+◌, ◌-◌, ◌<◌, ◌≤◌}
use native.Mathlib.Numerals.{add-one}
use native.Mathlib.Omega.{arith}
use lib.ListN.{length}
use borrow.Author.Tests.{eq-eqb, ne_eqb}
use Rattle.base.specs.Lists.{tab}
use Rattle.base.proofs.PickLaws.{yes, no, told, clash}
use Rattle.layout.specs.declared.Shape.{Shape}
use Rattle.layout.specs.Spots.{capacity}
use Rattle.answers.specs.Answer.{Answer}
use Rattle.answers.specs.Answer as A
use Rattle.answers.specs.Numbers.{accepts}
use Rattle.drive.specs.declared.Drive.{Drive}
use Rattle.drive.specs.Drive.{shape_of}
use Rattle.drive.specs.Opening.{opening_of}
use Rattle.nuggets.specs.Nugget.{byte_of}
use Rattle.nuggets.specs.Tests.{nugget_read}
use Rattle.nuggets.specs.declared.Span.{Span}
use Rattle.nuggets.specs.Touched.{touched_of, span_of, fits_in}
use Rattle.reading.specs.Read.{nuggets_up, nuggets_of, read_answer, read_buffer, buffer_at}
use Rattle.layout.specs.Shaped.{Shaped}
use Rattle.drive.proofs.OpeningLaws.{opening_lent}
use Rattle.nuggets.proofs.TouchLaws.{fits-within}

module _ (d : Drive) (v : List ℕ) (o len : ℕ) where
  -- the test of one nugget, by what the calls gave
  pub tested : (n : ℕ) {s : Shape} {t : ℕ} {a : Answer} → s ≡ shape_of d → t ≡ touched_of s o len n → a ≡ nugget_read d v n t → a ≡ nugget_read d v n (touched_of (shape_of d) o len n)
  tested n es et ea = ea ∙ rw (et, es)

  pub span_on : (end n : ℕ) {a : Answer} → n < end → a ≡ nugget_read d v n (touched_of (shape_of d) o len n) → accepts a ≡ true
      → nuggets_up d v o len (end - (n + 1)) (n + 1) ≡ nuggets_up d v o len (end - n) n
  unfolding nuggets_up
  span_on end n h e t = let k : end - n ≡ suc (end - (n + 1)) = omega arith in rw (k, add-one n) (sym (yes _ (ap accepts (sym e) ∙ t) refl))

  pub span_off : (end n : ℕ) {a : Answer} → n < end → a ≡ nugget_read d v n (touched_of (shape_of d) o len n) → accepts a ≡ false → a ≡ nuggets_up d v o len (end - n) n
  unfolding nuggets_up
  span_off end n h e t = let k : end - n ≡ suc (end - (n + 1)) = omega arith in rw k (e ∙ sym (no _ (ap accepts (sym e) ∙ t) refl))

  pub span_end : (end n : ℕ) → end ≤ n → A.Accepted ≡ nuggets_up d v o len (end - n) n
  unfolding nuggets_up
  span_end end n h = let k : end - n ≡ 0 = omega arith in rw k

  -- from the nugget of the first byte to that of the last
  pub nuggets-some : {span : Span} {r : Answer} → (len ≡ 0 → ⊥) → span ≡ span_of (shape_of d) o len → r ≡ nuggets_up d v o len (span.end - span.first) span.first
      → r ≡ nuggets_of d v o len
  unfolding nuggets_of
  nuggets-some h es e = e ∙ ap (λ (x : Span). nuggets_up d v o len (x.end - x.first) x.first) es ∙ sym (no _ (ne_eqb len 0 h) refl)

  pub nuggets-none : len ≡ 0 → A.Accepted ≡ nuggets_of d v o len
  unfolding nuggets_of
  nuggets-none e = sym (yes _ (eq-eqb len 0 e) refl)

  pub answer_tests : {s : Shape} {r : Answer} → accepts (opening_of d v) ≡ true → s ≡ shape_of d → fits_in s o len ≡ true → r ≡ nuggets_of d v o len → r ≡ read_answer d v o len
  unfolding read_answer
  answer_tests h es f e = e ∙ sym (yes _ h (yes _ (ap (λ (x : Shape). fits_in x o len) (sym es) ∙ f) refl))

  pub answer-past : {s : Shape} → accepts (opening_of d v) ≡ true → s ≡ shape_of d → fits_in s o len ≡ false → A.PastEnd ≡ read_answer d v o len
  unfolding read_answer
  answer-past h es f = sym (yes _ h (no _ (ap (λ (x : Shape). fits_in x o len) (sym es) ∙ f) refl))

  pub answer-opening : accepts (opening_of d v) ≡ false → opening_of d v ≡ read_answer d v o len
  unfolding read_answer
  answer-opening h = sym (no _ h refl)

-- what an accepted read says
pub read_lent : (d : Drive) (v : List ℕ) (o len : ℕ) → accepts (read_answer d v o len) ≡ true → Shaped (shape_of d) v × (o + len ≤ capacity (shape_of d))
read_lent d v o len e =
    ⊎_elim
    (λ opened.
    ⊎_elim (λ inside. (opening_lent d v opened, fits-within d o len refl inside))
    (λ past. absurd (clash e (ap accepts (sym (answer-past d v o len opened refl past)))))
    (told (fits_in (shape_of d) o len)))
    (λ shut. absurd (clash e (ap accepts (sym (answer-opening d v o len shut)) ∙ shut)))
    (told (accepts (opening_of d v)))

-- the answer and the buffer that it leaves
pub met : (d : Drive) (v : List ℕ) (o : ℕ) (b : List ℕ) {a : Answer} → a ≡ read_answer d v o (length b) → buffer_at a d v o b ≡ read_buffer d v o b
unfolding read_buffer
met d v o b e = ap (λ (x : Answer). buffer_at x d v o b) e

pub filled : (d : Drive) (v : List ℕ) (o : ℕ) (b : List ℕ) (a : Answer) {w : List ℕ} → accepts a ≡ true → w ≡ tab (length b) (λ i. byte_of d v (o + i)) → w ≡ buffer_at a d v o b
filled d v o b a h e = e ∙ sym (yes _ h refl)

pub left_alone : (d : Drive) (v : List ℕ) (o : ℕ) (b : List ℕ) (a : Answer) → accepts a ≡ false → b ≡ buffer_at a d v o b
left_alone d v o b a h = sym (no _ h refl)
