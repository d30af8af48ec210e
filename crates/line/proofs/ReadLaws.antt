-- Reading undoes writing: bytes up to and past a mark, decimal numbers.
use mathlib.Core.Path.{◌≡◌, refl, sym, ap, ◌∙◌}
use mathlib.Core.Bool.{Bool, true, false}
use mathlib.Core.List.{List, [], ◌∷◌, ◌++◌}
use Prim.Native.Nat.{ℕ, zero, suc, ◌+◌, ◌-◌, ◌*◌, ◌/◌, ◌%◌, ◌^◌, ◌<◌, ◌≤◌}
use native.Mathlib.Nat.{pow-suc}
use native.Mathlib.Omega.{arith}
use lib.Dec.{eqb}
use lib.ListN.{length, get_or, take, drop, drop_of_length-le}
use lib.Seq.{drop-cons}
use borrow.Author.Tests.{eq-eqb, ne_eqb}
use Rattle.base.specs.Pick.{pick}
use Rattle.base.proofs.PickLaws.{yes, no}
use Rattle.line.specs.Decimal.{digits, width_in, decimal, long_decimal}
use Rattle.line.specs.Reading.{up_to, past, value_from, decimal_value}
use Rattle.line.proofs.DecimalLaws.{width_holds}

-- no byte of the list is c
unfoldable pub free : ℕ → List ℕ → Bool
free c [] = true
free c (b ∷ l) = pick (eqb b c) false (free c l)

pub free-head : (c b : ℕ) (l : List ℕ) → free c (b ∷ l) ≡ true → (eqb b c ≡ false) × (free c l ≡ true)
unfolding free
free-head c b l h = go (eqb b c) h
  where
    go : (x : Bool) → pick x false (free c l) ≡ true → (x ≡ false) × (free c l ≡ true)
    go true e = let z : ◌≡◌ {A = Bool} false true = e in (sym z, cc)
    go false e = (refl, e)

pub free-append : (c : ℕ) (a b : List ℕ) → free c a ≡ true → free c b ≡ true → free c (a ++ b) ≡ true
unfolding free
free-append c [] b p q = q
free-append c (x ∷ a) b p q = let h = free-head c x a p in rw h.0 (free-append c a b h.1 q)

-- up to a mark, and past it
pub up_to_lem : (c : ℕ) (a b : List ℕ) → free c a ≡ true → up_to c (a ++ (c ∷ b)) ≡ a
unfolding up_to
up_to_lem c [] b p = yes _ (eq-eqb c c refl) refl
up_to_lem c (x ∷ a) b p = let h = free-head c x a p in rw (h.0, up_to_lem c a b h.1)

pub up_to_end : (c : ℕ) (a : List ℕ) → free c a ≡ true → up_to c a ≡ a
unfolding up_to
up_to_end c [] p = refl
up_to_end c (x ∷ a) p = let h = free-head c x a p in rw (h.0, up_to_end c a h.1)

pub up_to-free : (c : ℕ) (a b : List ℕ) → free c a ≡ true → up_to c (a ++ b) ≡ a ++ up_to c b
unfolding up_to
up_to-free c [] b p = refl
up_to-free c (x ∷ a) b p = let h = free-head c x a p in rw (h.0, up_to-free c a b h.1)

pub past-free : (c : ℕ) (a b : List ℕ) → free c a ≡ true → past c (a ++ b) ≡ past c b
unfolding past
past-free c [] b p = refl
past-free c (x ∷ a) b p = let h = free-head c x a p in rw h.0 (past-free c a b h.1)

pub past-mark : (c : ℕ) (b : List ℕ) → past c (c ∷ b) ≡ b
unfolding past
past-mark c b = yes _ (eq-eqb c c refl) refl

pub past_to : (c : ℕ) (a b : List ℕ) → free c a ≡ true → past c (a ++ (c ∷ b)) ≡ b
past_to c a b p = past-free c a (c ∷ b) p ∙ past-mark c b

-- where a text is cut by a mark
pub up_to-le : (c : ℕ) (l : List ℕ) → length (up_to c l) ≤ length l
unfolding up_to
up_to-le c [] = omega arith
up_to-le c (b ∷ l) = go (eqb b c) (up_to-le c l)
  where
    go : (x : Bool) → length (up_to c l) ≤ length l → length (pick x [] (b ∷ up_to c l)) ≤ suc (length l)
    go true h = omega arith
    go false h = omega arith

pub up_to-take : (c : ℕ) (l : List ℕ) → take (length (up_to c l)) l ≡ up_to c l
unfolding up_to
up_to-take c [] = refl
up_to-take c (b ∷ l) = go (eqb b c) (up_to-take c l)
  where
    go : (x : Bool) → take (length (up_to c l)) l ≡ up_to c l → take (length (pick x [] (b ∷ up_to c l))) (b ∷ l) ≡ pick x [] (b ∷ up_to c l)
    go true h = refl
    go false h = ap (λ (t : List ℕ). b ∷ t) h

pub past-drop : (c : ℕ) (l : List ℕ) → drop (suc (length (up_to c l))) l ≡ past c l
unfolding up_to past
past-drop c [] = refl
past-drop c (b ∷ l) = go (eqb b c) (past-drop c l)
  where
    go : (x : Bool) → drop (suc (length (up_to c l))) l ≡ past c l → drop (suc (length (pick x [] (b ∷ up_to c l)))) (b ∷ l) ≡ pick x l (past c l)
    go true h = refl
    go false h = h

-- a loop that looks for a mark: at it, before it, and at the end
pub up_to-at : (c : ℕ) (t : List ℕ) (i : ℕ) → i < length t → get_or t i 0 ≡ c → up_to c (drop i t) ≡ []
unfolding up_to
up_to-at c t i h e = rw (drop-cons t i 0 h, eq-eqb (get_or t i 0) c e)

pub up_to-on : (c : ℕ) (t : List ℕ) (i : ℕ) → i < length t → (get_or t i 0 ≡ c → ⊥) → up_to c (drop i t) ≡ get_or t i 0 ∷ up_to c (drop (suc i) t)
unfolding up_to
up_to-on c t i h ne = rw (drop-cons t i 0 h, ne_eqb (get_or t i 0) c ne)

pub up_to-over : (c : ℕ) (t : List ℕ) (i : ℕ) → length t ≤ i → up_to c (drop i t) ≡ []
unfolding up_to
up_to-over c t i h = rw (drop_of_length-le t h)

-- a byte that is no digit
abbrev pub Far : ℕ → Type 0
Far c = (x : ℕ) → x < 10 → eqb (48 + x) c ≡ false

digits-free : (c w n : ℕ) → Far c → free c (digits w n) ≡ true
unfolding digits free
digits-free c zero n far = refl
digits-free c (suc w) n far = free-append c (digits w (n / 10)) ((48 + n % 10) ∷ []) (digits-free c w (n / 10) far) (no _ (far (n % 10) (omega arith)) refl)

pub decimal-free : (c n : ℕ) → Far c → free c (decimal n) ≡ true
unfolding decimal
decimal-free c n far = digits-free c (width_in 9 n) n far

pub long-free : (c n : ℕ) → Far c → free c (long_decimal n) ≡ true
unfolding long_decimal
long-free c n far = digits-free c (width_in 19 n) n far

-- the marks are no digits
pub far_newline : Far 10
far_newline x h = ne_eqb (48 + x) 10 (λ e. omega (arith, e))

pub far_space : Far 32
far_space x h = ne_eqb (48 + x) 32 (λ e. omega (arith, e))

-- a decimal number is read back
pub value_more : (a : ℕ) (l : List ℕ) (b : ℕ) → value_from a (l ++ (b ∷ [])) ≡ value_from a l * 10 + (b - 48)
unfolding value_from
value_more a [] b = refl
value_more a (x ∷ l) b = value_more (a * 10 + (x - 48)) l b

value-digits : (w n : ℕ) → n < 10 ^ w → decimal_value (digits w n) ≡ n
unfolding digits value_from
value-digits zero n h = omega arith
value-digits (suc w) n h =
    let big : n < 10 ^ w * 10 = rw (pow-suc 10 w) at h in
    value_more 0 (digits w (n / 10)) (48 + n % 10) ∙ rw (value-digits w (n / 10) (omega arith)) (omega arith)

pub decimal_value_lem : (n : ℕ) → n < 10 ^ 10 → decimal_value (decimal n) ≡ n
unfolding decimal
decimal_value_lem n h = value-digits (width_in 9 n) n (width_holds 9 n h)

pub long-value : (n : ℕ) → n < 10 ^ 20 → decimal_value (long_decimal n) ≡ n
unfolding long_decimal
long-value n h = value-digits (width_in 19 n) n (width_holds 19 n h)
