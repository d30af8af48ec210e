-- The test of the masks: they are one exactly if every spent flake is held, and the lowest nugget where they differ is reported.
use mathlib.Core.Path.{◌≡◌, refl, sym, ap, ◌∙◌}
use mathlib.Core.Bool.{Bool, true, false}
use mathlib.Core.Logic.{◌⊎◌, inl, inr}
use mathlib.Core.List.{List}
use Prim.Native.Nat.{ℕ, zero, suc, ◌+◌, ◌<◌, ◌≤◌}
use native.Mathlib.Omega.{arith}
use lib.Dec.{eqb}
use borrow.Author.Tests.{eqb-true, eqb-false}
use Rattle.base.proofs.PickLaws.{yes, no, told, clash}
use Rattle.answers.specs.Answer.{Answer}
use Rattle.answers.specs.Answer as A
use Rattle.answers.specs.Numbers.{accepts}
use Rattle.answers.proofs.StageLaws.{goes_on, stops, passed}
use Rattle.layout.specs.declared.Shape.{Shape}
use Rattle.records.specs.Journal.{bit, lies_in}
use Rattle.records.specs.Record.{record_of}
use Rattle.records.proofs.BitLaws.{same_bits, lies_bits}
use Rattle.records.proofs.RuleLaws.{formed_lies}
use Rattle.tree.proofs.WholeLaws.{whole-formed}
use Rattle.drive.specs.Drive.{shape_of, gauge_of}
use Rattle.moving.specs.Move.{ascending, kept_tests}
use Rattle.moving.proofs.AnswerLaws.{each-accepted}
use Rattle.moved.specs.Spent.{AllHeld, SixteenTells}

-- masks of which one lies in the other, bit by bit
masks_same : (held spent : ℕ) → lies_in held spent ≡ true → ((f : ℕ) → bit spent f ≡ true → bit held f ≡ true) → spent ≡ held
masks_same held spent lies all = same_bits spent held (λ f. go f (told (bit spent f)) (told (bit held f)))
  where
    go : (f : ℕ) → (bit spent f ≡ true) ⊎ (bit spent f ≡ false) → (bit held f ≡ true) ⊎ (bit held f ≡ false) → bit spent f ≡ bit held f
    go f (inl on) h = on ∙ sym (all f on)
    go f (inr off) (inl on) = absurd (clash (lies_bits held spent lies f on) off)
    go f (inr off) (inr none) = off ∙ sym none

module _ (s : Shape) (v : List ℕ) where
  abbrev one : ℕ → Bool
  one n = eqb (record_of s v n).spent (record_of s v n).held

  -- the first nugget whose masks differ
  first_differs : (k m n : ℕ) → ascending (kept_tests s v) k m ≡ A.Discarded n → (m ≤ n) × (n < m + k) × (one n ≡ false) × ((i : ℕ) → m ≤ i → i < n → one i ≡ true)
  unfolding ascending
  first_differs zero m n e = let z : ◌≡◌ {A = Bool} true false = ap (λ (a : Answer). accepts a) e in absurd (clash (sym z) refl)
  first_differs (suc k) m n e = go (told (one m)) (λ same. first_differs k (suc m) n (sym (goes_on (kept_tests s v m) _ (ap accepts (yes _ same refl))) ∙ e))
    where
      go : (one m ≡ true) ⊎ (one m ≡ false)
          → (one m ≡ true → (suc m ≤ n) × (n < suc m + k) × (one n ≡ false) × ((i : ℕ) → suc m ≤ i → i < n → one i ≡ true))
          → (m ≤ n) × (n < m + suc k) × (one n ≡ false) × ((i : ℕ) → m ≤ i → i < n → one i ≡ true)
      go (inl same) again =
          let q = again same in
          (omega (arith, q.0), omega (arith, q.1), q.2, λ i a b. here same q.3 i a b (told (eqb m i)))
        where
          here : one m ≡ true → ((i : ℕ) → suc m ≤ i → i < n → one i ≡ true) → (i : ℕ) → m ≤ i → i < n → (eqb m i ≡ true) ⊎ (eqb m i ≡ false) → one i ≡ true
          here same later i a b (inl w) = rw (← eqb-true m i w) same
          here same later i a b (inr w) = later i (omega (arith, a, eqb-false m i w)) b
      go (inr other) again =
          let refused : kept_tests s v m ≡ A.Discarded m = no _ other refl in
          let same : A.Discarded m ≡ A.Discarded n = sym (stops (kept_tests s v m) _ (ap accepts refused) ∙ refused) ∙ e in
          let is : m ≡ n = cc in
          (omega (arith, is), omega (arith, is), rw (← is) other, λ i a b. absurd (omega (arith, is, a, b)))

  held-by_masks : (n : ℕ) → one n ≡ true → AllHeld s v n
  held-by_masks n same f on = rw (← eqb-true (record_of s v n).spent (record_of s v n).held same) on

pub sixteen-tells : SixteenTells
sixteen-tells d v whole =
    let s = shape_of d in (
      λ n e.
          let q = first_differs s v d.n 0 n e in
          let low : n < d.n = omega (arith, q.1) in
          record {
            inside = low;
            not_all = λ all.
                eqb-false (record_of s v n).spent (record_of s v n).held q.2
                (masks_same (record_of s v n).held (record_of s v n).spent (formed_lies d.p (gauge_of d) (record_of s v n) (whole-formed s (gauge_of d) v whole n low)) all);
            below = λ m c. held-by_masks s v m (q.3 m (omega arith) c);
          },
      λ e n h.
          held-by_masks s v n
          (passed (eqb (record_of s v n).spent (record_of s v n).held) A.Accepted (A.Discarded n) refl
          (ap accepts (each-accepted (kept_tests s v) d.n 0 (ap accepts e) n (omega arith) (omega (arith, h))))).0,
    )
