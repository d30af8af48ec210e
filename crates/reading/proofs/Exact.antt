-- Where nothing is altered a read is answered by its range alone: 8 past the end, else accepted.
use mathlib.Core.Path.{◌≡◌, refl, ap}
use mathlib.Core.Bool.{true, false}
use mathlib.Core.Logic.{◌⊎◌, inl, inr}
use mathlib.Core.List.{List}
use Prim.Native.Nat.{ℕ, zero, suc, ◌+◌, ◌*◌, ◌-◌, ◌<◌, ◌≤◌}
use native.Mathlib.Nat.{pos_of_ne-zero}
use native.Mathlib.Omega.{arith}
use lib.Dec.{leb, eqb}
use borrow.Author.Tests.{leb-true, eqb-false}
use Rattle.base.specs.Pick.{pick}
use Rattle.base.proofs.PickLaws.{yes, no, told}
use Rattle.answers.specs.Answer as A
use Rattle.answers.specs.Numbers.{accepts}
use Rattle.layout.specs.Spots.{capacity}
use Rattle.drive.specs.declared.Drive.{Drive}
use Rattle.drive.specs.Drive.{shape_of}
use Rattle.drive.specs.Opening.{opening_of}
use Rattle.drive.proofs.OpeningLaws.{opening_lent}
use Rattle.nuggets.specs.Tests.{nugget_read}
use Rattle.nuggets.specs.Touched.{touched_of, span_of}
use Rattle.nuggets.specs.declared.Span.{Span}
use Rattle.nuggets.proofs.TouchLaws.{fits-leb}
use Rattle.nuggets.proofs.SpanLaws.{inside}
use Rattle.reading.specs.Read.{nuggets_up, nuggets_of, read_answer}

module _ (d : Drive) (v : List ℕ) (opens : opening_of d v ≡ A.Accepted) (good : (n t : ℕ) → n < d.n → nugget_read d v n t ≡ A.Accepted) where
  nuggets-read : (o len k n : ℕ) → n + k ≤ d.n → nuggets_up d v o len k n ≡ A.Accepted
  unfolding nuggets_up
  nuggets-read o len zero n h = refl
  nuggets-read o len (suc k) n h =
      yes _ (ap accepts (good n (touched_of (shape_of d) o len n) (omega arith))) (nuggets-read o len k (suc n) (omega arith))

  span_read : (o len : ℕ) → o + len ≤ d.n * d.p * d.f → nuggets_of d v o len ≡ A.Accepted
  unfolding nuggets_of
  span_read o len room = go (told (eqb len 0))
    where
      span : Span
      span = span_of (shape_of d) o len

      go : (eqb len 0 ≡ true) ⊎ (eqb len 0 ≡ false) → pick (eqb len 0) A.Accepted (nuggets_up d v o len (span.end - span.first) span.first) ≡ A.Accepted
      go (inl e) = yes _ e refl
      go (inr e) =
          let met = inside (shape_of d) o len (opening_lent d v (ap accepts opens)).limited (pos_of_ne-zero (eqb-false len 0 e)) room in
          no _ e (nuggets-read o len (span.end - span.first) span.first (omega (arith, met.first, met.last)))

  pub read_exact : (o len : ℕ) → read_answer d v o len ≡ pick (leb (o + len) (d.n * d.p * d.f)) A.Accepted A.PastEnd
  unfolding read_answer
  read_exact o len =
      yes _ (ap accepts opens)
      (rw (fits-leb (shape_of d) o len (opening_lent d v (ap accepts opens)).limited) (go (told (leb (o + len) (capacity (shape_of d))))))
    where
      go : (leb (o + len) (capacity (shape_of d)) ≡ true) ⊎ (leb (o + len) (capacity (shape_of d)) ≡ false)
          → pick (leb (o + len) (capacity (shape_of d))) (nuggets_of d v o len) A.PastEnd ≡ pick (leb (o + len) (d.n * d.p * d.f)) A.Accepted A.PastEnd
      go (inl e) = rw e (span_read o len (leb-true (o + len) (capacity (shape_of d)) e))
      go (inr e) = rw e refl
