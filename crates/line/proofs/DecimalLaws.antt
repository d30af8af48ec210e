-- Laws of decimal digits: a turn and the end of the loops that count and store them.
use mathlib.Core.Path.{◌≡◌, refl, sym, ◌∙◌, ap}
use mathlib.Core.Bool.{true, false}
use mathlib.Core.List.{List, [], ◌∷◌, ◌++◌}
use mathlib.Core.Logic.{◌⊎◌, inl, inr}
use Prim.Native.Nat.{ℕ, zero, suc, ◌+◌, ◌*◌, ◌/◌, ◌%◌, ◌^◌, ◌<◌, ◌≤◌}
use native.Mathlib.Nat.{pow-suc, add_comm, lt_of_lt_of_le, one-le-pow}
use native.Mathlib.Numerals.{add-one}
use native.Mathlib.Omega.{arith}
use lib.Dec.{leb, lit≤}
use lib.ListN.{length, length-append}
use borrow.Author.Tests.{lt-ltb, le-ltb, leb-true, leb-false}
use Rattle.std.specs.Fmt as Fmt
use Rattle.std.proofs.lemmas.Fmt.{AppendsLastDigit, decimal_from_appends, length-decimal-le}
use Rattle.base.proofs.PickLaws.{yes, no, told}
use Rattle.line.specs.Decimal.{digits, width_in, decimal, long_decimal}

pub length_digits : (w n : ℕ) → length (digits w n) ≡ w
unfolding digits
length_digits zero n = refl
length_digits (suc w) n = length-append (digits w (n / 10)) ((48 + n % 10) ∷ []) ∙ rw (length_digits w (n / 10)) (omega arith)

pub width-last : (k n : ℕ) → n < 10 → width_in k n ≡ 1
unfolding width_in
width-last zero n h = refl
width-last (suc k) n h = yes _ (lt-ltb n 10 h) refl

width-zero : (n : ℕ) → width_in 0 n ≡ 1
unfolding width_in
width-zero n = refl

width-next : (k n : ℕ) → 10 ≤ n → width_in (suc k) n ≡ 1 + width_in k (n / 10)
unfolding width_in
width-next k n h = no _ (le-ltb n 10 h) refl

pub width-le : (k n : ℕ) → width_in k n ≤ suc k
unfolding width_in
width-le zero n = omega arith
width-le (suc k) n = go (told (leb 10 n)) (width-le k (n / 10))
  where
    go : (leb 10 n ≡ true) ⊎ (leb 10 n ≡ false) → width_in k (n / 10) ≤ suc k → width_in (suc k) n ≤ suc (suc k)
    go (inl e) h = rw (width-next k n (leb-true 10 n e)) (omega arith)
    go (inr e) h = rw (width-last (suc k) n (leb-false 10 n e)) (omega arith)

-- a tenth has a digit less
tenth : (k n : ℕ) → n < 10 ^ suc (suc k) → n / 10 < 10 ^ suc k
tenth k n h = let big : n < 10 ^ suc k * 10 = rw (pow-suc 10 (suc k)) at h in omega arith

-- more tries than digits count the same
pub width_same : (k m n : ℕ) → k ≤ m → n < 10 ^ suc k → width_in k n ≡ width_in m n
unfolding width_in
width_same zero m n l h = sym (width-last m n h)
width_same (suc k) zero n l h = absurd (omega arith)
width_same (suc k) (suc m) n l h = go (told (leb 10 n)) (width_same k m (n / 10) (omega arith) (tenth k n h))
  where
    go : (leb 10 n ≡ true) ⊎ (leb 10 n ≡ false) → width_in k (n / 10) ≡ width_in m (n / 10) → width_in (suc k) n ≡ width_in (suc m) n
    go (inl e) same = let t = leb-true 10 n e in width-next k n t ∙ ap (λ (w : ℕ). 1 + w) same ∙ sym (width-next m n t)
    go (inr e) same = let t = leb-false 10 n e in width-last (suc k) n t ∙ sym (width-last (suc m) n t)

-- the digits counted hold the number
pub width_holds : (k n : ℕ) → n < 10 ^ suc k → n < 10 ^ width_in k n
unfolding width_in
width_holds zero n h = h
width_holds (suc k) n h = go (told (leb 10 n)) (width_holds k (n / 10) (tenth k n h))
  where
    go : (leb 10 n ≡ true) ⊎ (leb 10 n ≡ false) → n / 10 < 10 ^ width_in k (n / 10) → n < 10 ^ width_in (suc k) n
    go (inl e) l = rw (width-next k n (leb-true 10 n e), add_comm 1 (width_in k (n / 10)), add-one (width_in k (n / 10)), pow-suc 10 (width_in k (n / 10))) (omega arith)
    go (inr e) l = rw (width-last (suc k) n (leb-false 10 n e)) (leb-false 10 n e)

-- a number of 32 bits is written alike in both widths
pub long_decimal_lem : (n : ℕ) → n < 2 ^ 32 → long_decimal n ≡ decimal n
unfolding long_decimal decimal
long_decimal_lem n h = ap (λ (w : ℕ). digits w n) (sym (width_same 9 19 n (lit≤ tt) (lt_of_lt_of_le h (lit≤ tt))))

-- the toolchain's decimal digits are these
written : ℕ → ℕ → List ℕ
written zero n = []
written (suc k) n = digits (width_in k n) n

appends : AppendsLastDigit written
unfolding written digits
appends = record { one = one; more = more }
  where
    one : (k n : ℕ) → n < 10 → written (suc k) n ≡ (48 + n) ∷ []
    one k n h = rw (width-last k n h) (ap (λ (x : ℕ). (48 + x) ∷ []) (omega arith))

    more : (k n : ℕ) → 10 ≤ n → written (suc k) n ≡ written k (n / 10) ++ ((48 + n % 10) ∷ [])
    more zero n h = ap (λ (w : ℕ). digits w n) (width-zero n)
    more (suc k) n h = ap (λ (w : ℕ). digits w n) (width-next k n h ∙ add_comm 1 (width_in k (n / 10)) ∙ add-one (width_in k (n / 10)))

pub decimal_is : (n : ℕ) → n < 2 ^ 64 → Fmt.decimal n ≡ long_decimal n
unfolding written long_decimal
decimal_is n h = sym (decimal_from_appends written appends 20 n h (length-decimal-le 20 n (lit≤ tt) (lt_of_lt_of_le h (lit≤ tt)) h))

-- the power of ten at or below a number counts its digits but one
pub width_power : (k j n : ℕ) → 10 ^ k ≤ n → n < 10 * 10 ^ k → k ≤ j → width_in j n ≡ k + 1
width_power zero j n l h m = width-last j n (omega arith)
width_power (suc k) zero n l h m = absurd (omega arith)
width_power (suc k) (suc j) n l h m =
    let low : 10 ^ k * 10 ≤ n = rw (pow-suc 10 k) at l in
    let high : n < 10 * (10 ^ k * 10) = rw (pow-suc 10 k) at h in
    width-next j n (omega (arith, low, one-le-pow k 10 (lit≤ tt))) ∙ rw (width_power k j (n / 10) (omega arith) (omega arith) (omega arith)) (omega arith)
