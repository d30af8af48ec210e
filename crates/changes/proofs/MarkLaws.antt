-- Records stored one after another: what each nugget's record is then, and what they leave.
use mathlib.Core.Path.{◌≡◌, refl, ap, sym, ◌∙◌}
use mathlib.Core.Logic.{inl, inr, ⊎_elim}
use mathlib.Core.Bool.{true, false}
use mathlib.Core.List.{List}
use Prim.Native.Nat.{ℕ, zero, suc, ◌+◌, ◌<◌, ◌≤◌}
use native.Mathlib.Omega.{arith}
use lib.ListN.{length}
use lib.Seq.{sets, length-sets}
use Rattle.base.specs.Lists.{part}
use Rattle.base.proofs.PickLaws.{yes, no, told, clash}
use Rattle.layout.specs.Shape.{width_of}
use Rattle.layout.specs.declared.Shape.{Shape}
use Rattle.layout.specs.Shaped.{Shaped}
use Rattle.layout.specs.Parts.{record_at, tags_at}
use Rattle.layout.proofs.Places.{record_inside, records-above}
use Rattle.records.specs.declared.Record.{Record}
use Rattle.records.specs.declared.Way.{Way}
use Rattle.records.specs.declared.Way.TheVariants.{Idle, Add, Rekey, Clear}
use Rattle.records.specs.Record.{record_bytes, Codes, record_of}
use Rattle.records.specs.Rule.{turned}
use Rattle.records.proofs.RecordLaws.{record_told, length_record, read-stored}
use Rattle.records.proofs.RuleLaws.{turned-idle}
use Rattle.changes.specs.Change.{idles, marked, marked_to}
use Rattle.changes.proofs.CellLaws.{Apart, part_apart, ordered}

-- an idle way is Idle
pub idle_is : (way : Way) → idles way ≡ true → way ≡ Idle
idle_is Idle e = refl
idle_is (Add t) e = absurd (clash e refl)
idle_is (Rekey t) e = absurd (clash e refl)
idle_is (Clear m) e = absurd (clash e refl)

module _ (s : Shape) (head : ℕ) (way : Way) (r : Record) (n : ℕ) (w : List ℕ) where
  pub mark-idle : idles way ≡ true → marked s head way r n w ≡ w
  unfolding marked
  mark-idle e = yes _ e refl

  pub mark-sets : idles way ≡ false → marked s head way r n w ≡ sets w (record_at s n) (record_bytes s (turned way head r))
  unfolding marked
  mark-sets e = no _ e refl

  pub length-mark : length (marked s head way r n w) ≡ length w
  length-mark =
      ⊎_elim (λ e. ap length (mark-idle e)) (λ e. ap length (mark-sets e) ∙ length-sets w (record_at s n) (record_bytes s (turned way head r))) (told (idles way))

  -- a part that doesn't meet the record stays
  pub mark-leaves : (at k : ℕ) → (idles way ≡ false → Apart at k (record_at s n) (width_of s)) → part at k (marked s head way r n w) ≡ part at k w
  mark-leaves at k h =
      ⊎_elim (λ e. ap (part at k) (mark-idle e))
      (λ e. ap (part at k) (mark-sets e) ∙ part_apart at k w (record_at s n) (width_of s) (record_bytes s (turned way head r)) (length_record s (turned way head r)) (h e))
      (told (idles way))

  -- the nugget's record is the one turned
  pub mark-put : Codes s (turned way head r) → record_at s n + width_of s ≤ length w → record_of s w n ≡ r → record_of s (marked s head way r n w) n ≡ turned way head r
  mark-put wide room was =
      ⊎_elim (λ e. ap (λ (x : List ℕ). record_of s x n) (mark-idle e) ∙ was ∙ turned-idle way head r (idle_is way e))
      (λ e. ap (λ (x : List ℕ). record_of s x n) (mark-sets e) ∙ read-stored s w (record_at s n) (turned way head r) wide room)
      (told (idles way))

-- records of two nuggets don't meet
pub records_apart : (s : Shape) (n m : ℕ) → (n ≡ m → ⊥) → Apart (record_at s n) (width_of s) (record_at s m) (width_of s)
records_apart s n m h =
    ⊎_elim (λ a. inl (records-above s n m a)) (λ a. ⊎_elim (λ b. inr (records-above s m n b)) (λ b. absurd (h (omega (arith, a, b)))) (ordered m n)) (ordered n m)

module _ (s : Shape) (head : ℕ) (way : ℕ → Way) (v : List ℕ) where
  pub length_marks : (m : ℕ) (w : List ℕ) → length (marked_to s head way v m w) ≡ length w
  unfolding marked_to
  length_marks zero w = refl
  length_marks (suc m) w = length-mark s head (way m) (record_of s v m) m (marked_to s head way v m w) ∙ length_marks m w

  pub marks_lent : (m : ℕ) (w : List ℕ) → Shaped s w → Shaped s (marked_to s head way v m w)
  marks_lent m w l = record { limited = l.limited; size = length_marks m w ∙ l.size }

  pub marks_leave : (at k m : ℕ) (w : List ℕ) → ((n : ℕ) → n < m → idles (way n) ≡ false → Apart at k (record_at s n) (width_of s)) → part at k (marked_to s head way v m w) ≡ part at k w
  unfolding marked_to
  marks_leave at k zero w h = refl
  marks_leave at k (suc m) w h =
      mark-leaves s head (way m) (record_of s v m) m (marked_to s head way v m w) at k (h m (omega arith)) ∙ marks_leave at k m w (λ n c. h n (omega (arith, c)))

  -- all that stands before and behind the records
  pub marks_above : (at k m : ℕ) (w : List ℕ) → m ≤ s.n → tags_at s ≤ at → part at k (marked_to s head way v m w) ≡ part at k w
  marks_above at k m w h c = marks_leave at k m w (λ n low off. inr (omega (arith, record_inside s n (omega (arith, low, h)), c)))

  -- records not reached yet
  pub marks_later : (n m : ℕ) (w : List ℕ) → m ≤ n → part (record_at s n) (width_of s) (marked_to s head way v m w) ≡ part (record_at s n) (width_of s) w
  marks_later n m w h = marks_leave (record_at s n) (width_of s) m w (λ q low off. inr (records-above s q n (omega (arith, low, h))))

  -- an idle nugget's record
  pub marks_idle : (n m : ℕ) (w : List ℕ) → idles (way n) ≡ true → part (record_at s n) (width_of s) (marked_to s head way v m w) ≡ part (record_at s n) (width_of s) w
  marks_idle n m w idle = marks_leave (record_at s n) (width_of s) m w (λ q low off. records_apart s n q (λ e. clash (ap (λ (x : ℕ). idles (way x)) (sym e) ∙ idle) off))

  -- and each that was reached
  pub marks_put : (n m : ℕ) (w : List ℕ) → n < m → Codes s (turned (way n) head (record_of s v n)) → record_at s n + width_of s ≤ length w → record_of s w n ≡ record_of s v n
      → record_of s (marked_to s head way v m w) n ≡ turned (way n) head (record_of s v n)
  unfolding marked_to
  marks_put n zero w c wide room was = absurd (omega (arith, c))
  marks_put n (suc m) w c wide room was =
      let u = marked_to s head way v m w in
      ⊎_elim
      (λ low.
      record_told s (record_at s n) (marked s head (way m) (record_of s v m) m u) u
      (mark-leaves s head (way m) (record_of s v m) m u (record_at s n) (width_of s) (λ off. inl (records-above s n m low)))
      ∙ marks_put n m w low wide room was)
      (λ high.
      mine m u (omega (arith, high, c)) (rw (length_marks m w) room)
      (record_told s (record_at s n) u w (marks_later n m w high) ∙ was))
      (ordered n m)
    where
      mine : (q : ℕ) (u : List ℕ) → n ≡ q → record_at s n + width_of s ≤ length u → record_of s u n ≡ record_of s v n → record_of s (marked s head (way q) (record_of s v q) q u) n ≡ turned (way n) head (record_of s v n)
      mine q u e space was = rw (← e) (mark-put s head (way n) (record_of s v n) n u wide space was)
