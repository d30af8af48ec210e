-- What is possible, taken apart; what the code reads is what the line tells, wherever it counts.
use mathlib.Core.Path.{◌≡◌, refl, sym, ap, ◌∙◌}
use mathlib.Core.Bool.{Bool, true, false}
use mathlib.Core.Logic.{◌⊎◌, inl, inr}
use mathlib.Core.List.{List}
use Rattle.std.specs.Prelude.{Option, None, Some}
use Rattle.std.specs.Bool.{then_some}
use Prim.Native.Nat.{ℕ, ◌-◌, ◌*◌, ◌<◌, ◌≤◌}
use native.Mathlib.Nat.{min-eq_right}
use native.Mathlib.Omega.{arith}
use lib.Dec.{leb}
use lib.ListN.{length, take}
use lib.Seq.{take-append_seam}
use borrow.Author.Tests.{le-leb, leb-true}
use Rattle.base.specs.Pick.{both}
use Rattle.base.specs.Lists.{same}
use Rattle.base.proofs.PickLaws.{yes, no, told, clash, both-on, both_off, both_left, both_right}
use Rattle.base.proofs.PartLaws.{sets-front}
use Rattle.line.specs.Lines.{Put}
use Rattle.line.proofs.PutLaws.{report-le}
use Rattle.reports.specs.Counts.{share_of}
use Rattle.standings.specs.declared.Standing.{Standing}
use Rattle.standings.specs.Standing.{standing_text, possible, standing_in, taken, found_in, at_most, told_in}

-- the tests of what is possible, as facts
pub record Possible (t : Standing) : Type 0 where
  pub some : 1 ≤ t.n
  pub few : t.n ≤ 16384
  pub moved_few : t.counts.moved ≤ t.n
  pub done_present : t.counts.done ≤ t.counts.flakes
  pub done_few : t.counts.done ≤ 64 * t.counts.moved
  pub rest_few : t.counts.flakes - t.counts.done ≤ 64 * (t.n - t.counts.moved)

pub possible_is : (t : Standing) → possible t ≡ true → Possible t
unfolding possible
possible_is t e =
    let c = t.counts in
    let e₁ = both_right (leb 1 t.n) _ e in
    let e₂ = both_right (leb t.n 16384) _ e₁ in
    let e₃ = both_right (leb c.moved t.n) _ e₂ in
    let e₄ = both_right (leb c.done c.flakes) _ e₃ in
    record {
      some = leb-true 1 t.n (both_left (leb 1 t.n) _ e);
      few = leb-true t.n 16384 (both_left (leb t.n 16384) _ e₁);
      moved_few = leb-true c.moved t.n (both_left (leb c.moved t.n) _ e₂);
      done_present = leb-true c.done c.flakes (both_left (leb c.done c.flakes) _ e₃);
      done_few = leb-true c.done (64 * c.moved) (both_left (leb c.done (64 * c.moved)) _ e₄);
      rest_few = leb-true (c.flakes - c.done) (64 * (t.n - c.moved)) (both_right (leb c.done (64 * c.moved)) _ e₄);
    }

pub is_possible : (t : Standing) → Possible t → possible t ≡ true
unfolding possible
is_possible t h =
    both-on (le-leb 1 t.n h.some)
    (both-on (le-leb t.n 16384 h.few)
    (both-on (le-leb t.counts.moved t.n h.moved_few)
    (both-on (le-leb t.counts.done t.counts.flakes h.done_present)
    (both-on (le-leb t.counts.done (64 * t.counts.moved) h.done_few) (le-leb (t.counts.flakes - t.counts.done) (64 * (t.n - t.counts.moved)) h.rest_few)))))

-- no possible number is above 2^20
pub flakes_few : (t : Standing) → Possible t → t.counts.flakes ≤ 1048576
flakes_few t h = omega (arith, h.few, h.moved_few, h.done_few, h.rest_few)

-- numbers below 2^21 are read as they are
low : (x : ℕ) → at_most x < 2097152 → at_most x ≡ x
low x h = omega arith

-- so what is possible is read as it is
joins : (l : List ℕ) → at_most (standing_in l).n ≡ (standing_in l).n → at_most (standing_in l).counts.moved ≡ (standing_in l).counts.moved
    → at_most (standing_in l).counts.flakes ≡ (standing_in l).counts.flakes → at_most (standing_in l).counts.done ≡ (standing_in l).counts.done → told_in l ≡ standing_in l
joins l p q r s = λ i. record { n = p i; counts = record { moved = q i; flakes = r i; done = s i } }

pub told_same : (l : List ℕ) → possible (told_in l) ≡ true → told_in l ≡ standing_in l
told_same l e =
    let h = possible_is (told_in l) e in
    let k = flakes_few (told_in l) h in
    let t = standing_in l in
    joins l (low t.n (omega (arith, h.few))) (low t.counts.moved (omega (arith, h.few, h.moved_few))) (low t.counts.flakes (omega (arith, k))) (low t.counts.done (omega (arith, k, h.done_present)))

same-told : (l : List ℕ) → possible (standing_in l) ≡ true → told_in l ≡ standing_in l
same-told l e =
    let h = possible_is (standing_in l) e in
    let k = flakes_few (standing_in l) h in
    let t = standing_in l in
    joins l (min-eq_right (omega (arith, h.few))) (min-eq_right (omega (arith, h.few, h.moved_few))) (min-eq_right (omega (arith, k))) (min-eq_right (omega (arith, k, h.done_present)))

-- a line that is taken, and the two kinds that aren't
found_taken : (l : List ℕ) {t : Standing} → t ≡ told_in l → possible t ≡ true → same (standing_text t) l ≡ true → Some t ≡ found_in l
unfolding found_in taken
found_taken l {t} e p q =
    let f : possible (told_in l) ≡ true = rw e at p in
    let is : t ≡ standing_in l = e ∙ told_same l f in
    let p' : possible (standing_in l) ≡ true = rw is at p in
    let q' : same (standing_text (standing_in l)) l ≡ true = rw is at q in
    ap Some is ∙ sym (yes _ (both-on p' q') refl)

found_other : (l : List ℕ) {t : Standing} → t ≡ told_in l → possible t ≡ true → same (standing_text t) l ≡ false → None ≡ found_in l
unfolding found_in taken
found_other l {t} e p q =
    let f : possible (told_in l) ≡ true = rw e at p in
    let is : t ≡ standing_in l = e ∙ told_same l f in
    let p' : possible (standing_in l) ≡ true = rw is at p in
    let q' : same (standing_text (standing_in l)) l ≡ false = rw is at q in
    sym (no _ (both-on p' q') refl)

found_told : (l : List ℕ) {t : Standing} → t ≡ told_in l → possible t ≡ true → {b : Bool} → b ≡ same (standing_text t) l → then_some b t ≡ found_in l
found_told l {t} e p {b} q = go b q
  where
    go : (b : Bool) → b ≡ same (standing_text t) l → then_some b t ≡ found_in l
    go true q = found_taken l e p (sym q)
    go false q = found_other l e p (sym q)

found_nothing : (l : List ℕ) {t : Standing} → t ≡ told_in l → possible t ≡ false → None ≡ found_in l
unfolding found_in taken
found_nothing l {t} e p = sym (no _ (go (told (possible (standing_in l)))) refl)
  where
    go : (possible (standing_in l) ≡ true) ⊎ (possible (standing_in l) ≡ false) → both (possible (standing_in l)) (same (standing_text (standing_in l)) l) ≡ false
    go (inl h) =
        let z : possible (standing_in l) ≡ false = rw (same-told l h) at (rw e at p) in
        absurd (clash h z)
    go (inr h) = both_off _ h

-- what the code answers, past its test and at it
pub found_some : (l : List ℕ) {t : Standing} {b : Bool} {r : Option Standing} → t ≡ told_in l → possible t ≡ true → b ≡ same (standing_text t) l → r ≡ then_some b t → r ≡ found_in l
found_some l e p q f = f ∙ found_told l e p q

pub found_none : (l : List ℕ) {t : Standing} {b : Bool} {r : Option Standing} → t ≡ told_in l → possible t ≡ false → b ≡ false → r ≡ then_some b t → r ≡ found_in l
found_none l {t} {b} {r} e p q f = let g : r ≡ None = rw q at f in g ∙ found_nothing l e p

-- how far the line reaches
pub standing_le : (t : Standing) → length (standing_text t) ≤ 105
unfolding standing_text
standing_le t = report-le t.n t.counts.moved (t.n - t.counts.moved) t.counts.flakes (share_of t.n t.counts) t.counts.done

-- what was put first in a buffer is what stands there
pub put_first : (s x : List ℕ) (text : List ℕ) {k : ℕ} → length text ≤ length s → Put s 0 text k x → take k x ≡ text
put_first s x text {k} h f =
    let e : k ≡ length text = f.behind ∙ (omega arith) in
    rw (f.stored, e, sets-front s text h) (take-append_seam text _)
