-- Two drives that differ at most in the old secret, over two volumes: where each nugget tests alike and each flake of a nugget
-- that passes reads alike, reads are alike.
use mathlib.Core.Path.{◌≡◌, refl, ap}
use mathlib.Core.Bool.{true}
use mathlib.Core.List.{List}
use Prim.Native.Nat.{ℕ, zero, suc, ◌+◌, ◌-◌, ◌<◌, ◌≤◌}
use native.Mathlib.Nat.{pos_of_ne-zero}
use native.Mathlib.Omega.{arith}
use lib.Dec.{eqb}
use lib.ListN.{length, get_or}
use borrow.Author.Tests.{eqb-false}
use Rattle.base.proofs.TabLaws.{tab_ext}
use Rattle.answers.specs.Numbers.{accepts}
use Rattle.answers.proofs.StageLaws.{accepted_is}
use Rattle.layout.specs.Shaped.{Shaped}
use Rattle.layout.specs.Spots.{spot_at, capacity}
use Rattle.layout.proofs.Limits.{limits}
use Rattle.layout.proofs.Places.{spot_inside}
use Rattle.drive.specs.declared.Drive.{Drive}
use Rattle.drive.specs.Drive.{shape_of}
use Rattle.drive.specs.Opening.{opening_of}
use Rattle.drive.proofs.OpeningLaws.{opening_lent}
use Rattle.nuggets.specs.Nugget.{contents_of, byte_of}
use Rattle.nuggets.specs.Tests.{path_for, nugget_read}
use Rattle.nuggets.specs.Touched.{touched_of, span_of, fits_in}
use Rattle.nuggets.proofs.TouchLaws.{fits-within}
use Rattle.nuggets.proofs.SpanLaws.{inside}
use Rattle.reading.specs.Read.{nuggets_up, nuggets_of, read_answer, read_buffer}
use Rattle.reading.proofs.AnswerLaws.{read_lent}
use Rattle.reading.proofs.TestedLaws.{read_tests}
use Rattle.changes.proofs.Exact.{yes_same, no_same}
use Rattle.assurances.specs.Unseen.{with_old}

-- an accepted read passed the path of each nugget that it meets
read_paths : (d : Drive) (v : List ℕ) (o len : ℕ) → accepts (read_answer d v o len) ≡ true → (i : ℕ) → i < len → accepts (path_for d v (spot_at (shape_of d) (o + i)).nugget) ≡ true
read_paths d v o len e i h = ap accepts (read_tests d v o len (accepted_is (read_answer d v o len) e) (o + i) (omega arith) (omega arith)).path

module _ (d : Drive) (any v w : List ℕ) (opens : opening_of (with_old d any) w ≡ opening_of d v)
    (tests : Shaped (shape_of d) v → (n t : ℕ) → n < d.n → nugget_read (with_old d any) w n t ≡ nugget_read d v n t)
    (bytes : Shaped (shape_of d) v → (n f : ℕ) → n < d.n → f < d.p → accepts (path_for d v n) ≡ true → contents_of (with_old d any) w n f ≡ contents_of d v n f) where
  abbrev e : Drive
  e = with_old d any

  up-alike : Shaped (shape_of d) v → (o len k n : ℕ) → n + k ≤ d.n → nuggets_up e w o len k n ≡ nuggets_up d v o len k n
  unfolding nuggets_up
  up-alike l o len zero n h = refl
  up-alike l o len (suc k) n h = rw (tests l n (touched_of (shape_of d) o len n) (omega arith), up-alike l o len k (suc n) (omega arith)) refl

  span_alike : Shaped (shape_of d) v → (o len : ℕ) → o + len ≤ capacity (shape_of d) → nuggets_of e w o len ≡ nuggets_of d v o len
  unfolding nuggets_of
  span_alike l o len room =
      let span = span_of (shape_of d) o len in
      no_same (eqb len 0) _
      (λ some.
      let met = inside (shape_of d) o len l.limited (pos_of_ne-zero (eqb-false len 0 some)) room in
      up-alike l o len (span.end - span.first) span.first (omega (arith, met.first, met.last)))

  pub read_alike : (o len : ℕ) → read_answer (with_old d any) w o len ≡ read_answer d v o len
  unfolding read_answer
  read_alike o len =
      rw opens
      (yes_same (accepts (opening_of d v)) _
      (λ opened. yes_same (fits_in (shape_of d) o len) _ (λ fits. span_alike (opening_lent d v opened) o len (fits-within d o len refl fits))))

  pub buffer_alike : (o : ℕ) (buffer : List ℕ) → read_buffer (with_old d any) w o buffer ≡ read_buffer d v o buffer
  unfolding read_buffer byte_of
  buffer_alike o buffer =
      rw (read_alike o (length buffer))
      (yes_same (accepts (read_answer d v o (length buffer))) _
      (λ accepted.
      let (lent, room) = read_lent d v o (length buffer) accepted in
      let ok = limits (shape_of d) lent.limited in
      tab_ext (length buffer) (λ i. byte_of e w (o + i)) (λ i. byte_of d v (o + i))
      (λ i h.
      let at = spot_at (shape_of d) (o + i) in
      let in_it = spot_inside (shape_of d) (o + i) (omega (arith, ok.flakes)) (omega (arith, ok.wide)) (omega (arith, room, h)) in
      ap (λ (l : List ℕ). get_or l at.byte 0) (bytes lent at.nugget at.flake in_it.nugget_is in_it.flake_is (read_paths d v o (length buffer) accepted i h)))))
