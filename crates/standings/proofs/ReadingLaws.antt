-- Turns of the loops that read a line.
use mathlib.Core.Path.{◌≡◌, refl, sym, ap, ◌∙◌}
use mathlib.Core.Bool.{Bool, true, false, cond, not}
use mathlib.Core.Logic.{◌⊎◌, inl, inr}
use mathlib.Core.List.{List, [], ◌∷◌, ◌++◌}
use Rattle.std.specs.Prelude.{Option, None, Some}
use Rattle.std.specs.Option.{unwrap_or}
use Rattle.std.specs.List.{position_or_len}
use Prim.Native.Nat.{ℕ, suc, ◌+◌, ◌-◌, ◌*◌, ◌<◌, ◌≤◌, min}
use native.Mathlib.Nat.{min-eq_left, min-eq_right}
use native.Mathlib.Omega.{arith}
use lib.Dec.{leb, ltb, eqb}
use lib.ListN.{length, take, drop, length-drop, drop_of_length-le}
use lib.Seq.{drop-drop}
use borrow.Author.Tests.{leb-true, leb-false, ltb-false}
use Rattle.base.specs.Pick.{pick}
use Rattle.base.proofs.PickLaws.{told}
use Rattle.line.specs.Reading.{up_to, past, field_at, value_from, decimal_value}
use Rattle.line.proofs.ReadLaws.{up_to-le, up_to-take, past-drop, value_more}
use Rattle.standings.specs.Standing.{at_most}

-- places inside a text that cut off the same are one
pub drop_apart : (t : List ℕ) {x y : ℕ} → x ≤ length t → y ≤ length t → drop x t ≡ drop y t → x ≡ y
drop_apart t {x} {y} h k e = omega (arith, ap length e, length-drop x t, length-drop y t)

-- the place of the first mark is how many bytes stand before it
pub prefix_is : (c : ℕ) (l : List ℕ) → position_or_len (λ b. eqb b c) l ≡ length (up_to c l)
unfolding up_to
prefix_is c [] = refl
prefix_is c (b ∷ l) = go (eqb b c) (prefix_is c l)
  where
    go : (x : Bool) → position_or_len (λ b. eqb b c) l ≡ length (up_to c l) → cond (not x) (1 + position_or_len (λ b. eqb b c) l) 0 ≡ length (pick x [] (b ∷ up_to c l))
    go true e = refl
    go false e = omega (arith, e)

pub position_is : (c : ℕ) (l : List ℕ) {r : Option ℕ} {n : ℕ} → r ≡ cond (ltb (position_or_len (λ b. eqb b c) l) (length l)) (Some (position_or_len (λ b. eqb b c) l)) None
    → n ≡ unwrap_or r (length l) → n ≡ length (up_to c l)
position_is c l {r} {n} e f = go (told (ltb (length (up_to c l)) (length l)))
  where
    is : n ≡ unwrap_or (cond (ltb (length (up_to c l)) (length l)) (Some (length (up_to c l))) None) (length l)
    is = rw (e, prefix_is c l) at f

    go : (ltb (length (up_to c l)) (length l) ≡ true) ⊎ (ltb (length (up_to c l)) (length l) ≡ false) → n ≡ length (up_to c l)
    go (inl h) = rw h at is
    go (inr h) = let g : n ≡ length l = rw h at is in omega (arith, g, ltb-false (length (up_to c l)) (length l) h, up_to-le c l)

-- behind the mark, or at the end
pub found_le : (c : ℕ) (t : List ℕ) (at : ℕ) {i : ℕ} → at ≤ length t → i ≡ at + length (up_to c (drop at t)) → i ≤ length t
found_le c t at h e = omega (arith, e, up_to-le c (drop at t), length-drop at t)

pub behind-mark : (c : ℕ) (t : List ℕ) (at : ℕ) {i : ℕ} → i ≡ at + length (up_to c (drop at t)) → drop (i + 1) t ≡ past c (drop at t)
behind-mark c t at {i} e =
    let f : i + 1 ≡ at + suc (length (up_to c (drop at t))) = omega (arith, e) in
    rw f (sym (drop-drop (suc (length (up_to c (drop at t)))) at t) ∙ past-drop c (drop at t))

pub behind_is : (c : ℕ) (t : List ℕ) (at : ℕ) {i : ℕ} → i ≡ at + length (up_to c (drop at t)) → drop (min (length t) (i + 1)) t ≡ past c (drop at t)
behind_is c t at {i} e = go (told (leb (i + 1) (length t)))
  where
    go : (leb (i + 1) (length t) ≡ true) ⊎ (leb (i + 1) (length t) ≡ false) → drop (min (length t) (i + 1)) t ≡ past c (drop at t)
    go (inl h) = rw (min-eq_right (leb-true (i + 1) (length t) h)) (behind-mark c t at e)
    go (inr h) =
        let over : length t ≤ i + 1 = omega (arith, leb-false (i + 1) (length t) h) in
        rw (min-eq_left over, drop_of_length-le t {i = length t} (omega arith)) (sym (drop_of_length-le t {i = i + 1} over) ∙ behind-mark c t at e)

-- a part cut at the place of the mark
pub cut_is : (t : List ℕ) (from : ℕ) {end : ℕ} → end ≡ from + length (up_to 32 (drop from t)) → take (end - from) (drop from t) ≡ up_to 32 (drop from t)
cut_is t from {end} e =
    let f : end - from ≡ length (up_to 32 (drop from t)) = omega (arith, e) in
    rw f (up_to-take 32 (drop from t))

-- a number only grows
value_ge : (a : ℕ) (l : List ℕ) → a ≤ value_from a l
unfolding value_from
value_ge a [] = omega arith
value_ge a (b ∷ l) = omega (arith, value_ge (a * 10 + (b - 48)) l)

-- so it may be cut at any step
value-most : (x : ℕ) (l : List ℕ) → at_most (value_from (at_most x) l) ≡ at_most (value_from x l)
value-most x l = go (told (leb x 2097152))
  where
    go : (leb x 2097152 ≡ true) ⊎ (leb x 2097152 ≡ false) → at_most (value_from (at_most x) l) ≡ at_most (value_from x l)
    go (inl e) = rw (min-eq_right (leb-true x 2097152 e))
    go (inr e) =
        let big : 2097152 ≤ x = omega (arith, leb-false x 2097152 e) in
        rw (min-eq_left big) (min-eq_left (value_ge 2097152 l) ∙ sym (min-eq_left (omega (arith, big, value_ge x l))))

pub number_more : (l : List ℕ) (x : ℕ) {a b : ℕ} → a ≡ at_most (decimal_value l) → b ≡ at_most (a * 10 + (x - 48)) → b ≡ at_most (decimal_value (l ++ (x ∷ [])))
number_more l x h e = omega (arith, h, e, value_more 0 l x)

-- the fields before field k are passed one by one
pub field-none : (t : List ℕ) (k : ℕ) → field_at (k - 0) (drop 0 t) ≡ field_at k t
field-none t k = let e : k - 0 ≡ k = omega arith in rw e

pub field-on : (t : List ℕ) (k i at next : ℕ) → i < k → drop next t ≡ past 32 (drop at t) → field_at (k - i) (drop at t) ≡ field_at k t
    → field_at (k - (i + 1)) (drop next t) ≡ field_at k t
unfolding field_at
field-on t k i at next h e q =
    let f : k - i ≡ suc (k - (i + 1)) = omega arith in
    let g : field_at (k - (i + 1)) (past 32 (drop at t)) ≡ field_at k t = rw f at q in
    rw e g

pub field_end : (t : List ℕ) (k i at from : ℕ) {n : ℕ} → k ≤ i → drop from t ≡ past 61 (drop at t) → field_at (k - i) (drop at t) ≡ field_at k t
    → n ≡ at_most (decimal_value (up_to 32 (drop from t))) → n ≡ at_most (decimal_value (field_at k t))
unfolding field_at
field_end t k i at from {n} h e q r =
    let f : k - i ≡ 0 = omega arith in
    let g : up_to 32 (past 61 (drop at t)) ≡ field_at k t = rw f at q in
    r ∙ rw e (ap (λ (l : List ℕ). at_most (decimal_value l)) g)
