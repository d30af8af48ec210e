-- Multiplication by a constant is linear, and what is linear is known by its values at 1, 2, 4, .. , 128.
use mathlib.Core.Path.{◌≡◌, refl, ap, ap₂, sym, ◌∙◌}
use mathlib.Core.List.{List}
use Prim.Native.Nat.{ℕ, zero, suc, ◌*◌, ◌/◌, ◌%◌, ◌^◌, ◌<◌}
use native.Mathlib.Nat.{pow-suc, mod-lt, one-mul, zero-mul, add-zero, mul_comm, div-lt_iff_lt-mul, div-add-mod'}
use native.Mathlib.Omega.{arith}
use lib.Bits.{bit_xor, xor_comm, xor_self, xor_zero_l, xor_zero_r, xor_block, xor_shr, xor_mod, xor_shifted, xor_lt}
use lib.Dec.{lit<}
use lib.ListN.{get_or}
use lib.Pow.{pow_pos}
use Rattle.base.specs.Lists.{tab}
use Rattle.base.proofs.TabLaws.{get_or-tab}
use Rattle.words.proofs.XorLaws.{xor_assoc}
use Rattle.field.specs.Field.{xtimes, mul_bits, mul, sum4}

-- two rules that one computed list shows equal at every number below n
pub each : (n : ℕ) (f g : ℕ → ℕ) → tab n f ≡ tab n g → (x : ℕ) → x < n → f x ≡ g x
each n f g e x h = sym (get_or-tab n f x 0 h) ∙ ap (λ (l : List ℕ). get_or l x 0) e ∙ get_or-tab n g x 0 h

pub xor_swap : (a b c d : ℕ) → bit_xor (bit_xor a b) (bit_xor c d) ≡ bit_xor (bit_xor a c) (bit_xor b d)
xor_swap a b c d =
    xor_assoc a b (bit_xor c d)
    ∙ ap (λ (z : ℕ). bit_xor a z) (sym (xor_assoc b c d) ∙ ap (λ (z : ℕ). bit_xor z d) (xor_comm b c) ∙ xor_assoc c b d)
    ∙ sym (xor_assoc a c (bit_xor b d))

pub record Linear (f : ℕ → ℕ) : Type 0 where
  pub sums : (x y : ℕ) → f (bit_xor x y) ≡ bit_xor (f x) (f y)

-- a digit times a number
digit_lin : (p q k : ℕ) → p < 2 → q < 2 → bit_xor p q * k ≡ bit_xor (p * k) (q * k)
digit_lin zero q k h l = rw (zero-mul k, xor_zero_l q) (sym (xor_zero_l (q * k)))
digit_lin (suc zero) zero k h l = rw (zero-mul k) (sym (xor_zero_r (1 * k)))
digit_lin (suc zero) (suc zero) k h l = zero-mul k ∙ sym (xor_self (1 * k))
digit_lin (suc zero) (suc (suc q)) k h l = absurd (omega arith)
digit_lin (suc (suc p)) q k h l = absurd (omega arith)

times_lin : (p x y : ℕ) → p < 2 → p * bit_xor x y ≡ bit_xor (p * x) (p * y)
times_lin zero x y h = rw (zero-mul (bit_xor x y), zero-mul x, zero-mul y)
times_lin (suc zero) x y h = rw (one-mul (bit_xor x y), one-mul x, one-mul y)
times_lin (suc (suc p)) x y h = absurd (omega arith)

pub doubled : (x y : ℕ) → bit_xor x y * 2 ≡ bit_xor (x * 2) (y * 2)
doubled x y =
    sym (add-zero (bit_xor x y * 2)) ∙ sym (xor_block 1 x y 0 0 (lit< tt) (lit< tt)) ∙ ap₂ bit_xor (add-zero (x * 2)) (add-zero (y * 2))

twice_lin : Linear (λ x. x * 2 % 256)
twice_lin = record { sums = λ x y. ap (λ (z : ℕ). z % 256) (doubled x y) ∙ xor_mod (x * 2) (y * 2) 8 }

top_lin : Linear (λ x. x / 128 % 2)
top_lin = record { sums = λ x y. ap (λ (z : ℕ). z % 2) (xor_shr x y 7) ∙ xor_mod (x / 128) (y / 128) 1 }

pub xtimes_lin : Linear xtimes
unfolding xtimes
xtimes_lin = record {
  sums = λ x y.
      ap₂ bit_xor (twice_lin.sums x y)
      (ap (λ (z : ℕ). z * 0x1b) (top_lin.sums x y) ∙ digit_lin (x / 128 % 2) (y / 128 % 2) 0x1b (omega arith) (omega arith))
      ∙ xor_swap (x * 2 % 256) (y * 2 % 256) (x / 128 % 2 * 0x1b) (y / 128 % 2 * 0x1b);
}

bits_lin : (n a : ℕ) → Linear (mul_bits n a)
unfolding mul_bits
bits_lin zero a = record { sums = λ x y. refl }
bits_lin (suc n) a = record {
  sums = λ x y.
      ap₂ bit_xor (times_lin (a % 2) x y (omega arith)) (ap (mul_bits n (a / 2)) (xtimes_lin.sums x y) ∙ (bits_lin n (a / 2)).sums (xtimes x) (xtimes y))
      ∙ xor_swap (a % 2 * x) (a % 2 * y) (mul_bits n (a / 2) (xtimes x)) (mul_bits n (a / 2) (xtimes y));
}

pub mul_lin : (a : ℕ) → Linear (mul a)
unfolding mul
mul_lin a = bits_lin 8 a

pub digit-times : (p : ℕ) → p < 2 → Linear (λ x. p * x)
digit-times p h = record { sums = λ x y. times_lin p x y h }

pub sum_lin : {f g : ℕ → ℕ} → Linear f → Linear g → Linear (λ x. bit_xor (f x) (g x))
sum_lin {f} {g} p q = record { sums = λ x y. ap₂ bit_xor (p.sums x y) (q.sums x y) ∙ xor_swap (f x) (f y) (g x) (g y) }

pub then_lin : {f g : ℕ → ℕ} → Linear f → Linear g → Linear (λ x. f (g x))
then_lin {f} {g} p q = record { sums = λ x y. ap f (q.sums x y) ∙ p.sums (g x) (g y) }

pub sum4_lin : {f g h k : ℕ → ℕ} → Linear f → Linear g → Linear h → Linear k → Linear (λ x. sum4 (f x) (g x) (h x) (k x))
sum4_lin p q r s = sum_lin (sum_lin (sum_lin p q) r) s

-- nothing goes to nothing
lin_zero : (f : ℕ → ℕ) → Linear f → f 0 ≡ 0
lin_zero f p = p.sums 0 0 ∙ xor_self (f 0)

digits : (f g : ℕ → ℕ) → Linear f → Linear g → tab 8 (λ i. f (2 ^ i)) ≡ tab 8 (λ i. g (2 ^ i)) → (n : ℕ) → n < 8 → (q : ℕ) → q < 2
    → f (q * 2 ^ n) ≡ g (q * 2 ^ n)
digits f g p r e n h zero l = rw (zero-mul (2 ^ n)) (lin_zero f p ∙ sym (lin_zero g r))
digits f g p r e n h (suc zero) l = rw (one-mul (2 ^ n)) (each 8 (λ i. f (2 ^ i)) (λ i. g (2 ^ i)) e n h)
digits f g p r e n h (suc (suc q)) l = absurd (omega arith)

cut : (n x : ℕ) → x ≡ bit_xor (x / 2 ^ n * 2 ^ n) (x % 2 ^ n)
cut n x = sym (div-add-mod' x (2 ^ n)) ∙ sym (xor_shifted (x / 2 ^ n) n (x % 2 ^ n) (mod-lt x (pow_pos n)))

below : (f g : ℕ → ℕ) → Linear f → Linear g → tab 8 (λ i. f (2 ^ i)) ≡ tab 8 (λ i. g (2 ^ i)) → (n : ℕ) → n < 9 → (x : ℕ) → x < 2 ^ n → f x ≡ g x
below f g p r e zero h x l =
    let z : x ≡ 0 = omega arith in
    rw z (lin_zero f p ∙ sym (lin_zero g r))
below f g p r e (suc n) h x l =
    let q = x / 2 ^ n in
    let m = x % 2 ^ n in
    ap f (cut n x)
    ∙ p.sums (q * 2 ^ n) m
    ∙ ap₂ bit_xor (digits f g p r e n (omega arith) q ((div-lt_iff_lt-mul (pow_pos n)).1 (rw (← mul_comm (2 ^ n) 2, ← pow-suc 2 n) l))) (below f g p r e n (omega arith) m (mod-lt x (pow_pos n)))
    ∙ sym (r.sums (q * 2 ^ n) m)
    ∙ ap g (sym (cut n x))

-- two linear functions that agree on 1, 2, 4, .. , 128 agree on all bytes
pub on-bytes : (f g : ℕ → ℕ) → Linear f → Linear g → tab 8 (λ i. f (2 ^ i)) ≡ tab 8 (λ i. g (2 ^ i)) → (x : ℕ) → x < 256 → f x ≡ g x
on-bytes f g p r e x h = below f g p r e 8 (omega arith) x h

-- bytes stay bytes
xtimes-lt : (b : ℕ) → xtimes b < 256
unfolding xtimes
xtimes-lt b = xor_lt 8 (b * 2 % 256) (b / 128 % 2 * 0x1b) (omega arith) (omega arith)

bits_lt : (n a b : ℕ) → b < 256 → mul_bits n a b < 256
unfolding mul_bits
bits_lt zero a b h = lit< tt
bits_lt (suc n) a b h = xor_lt 8 (a % 2 * b) (mul_bits n (a / 2) (xtimes b)) (digit_lt (a % 2) b (omega arith) h) (bits_lt n (a / 2) (xtimes b) (xtimes-lt b))
  where
    digit_lt : (p x : ℕ) → p < 2 → x < 256 → p * x < 256
    digit_lt zero x l h = rw (zero-mul x) (lit< tt)
    digit_lt (suc zero) x l h = rw (one-mul x) h
    digit_lt (suc (suc p)) x l h = absurd (omega arith)

pub mul-lt : (a b : ℕ) → b < 256 → mul a b < 256
unfolding mul
mul-lt a b h = bits_lt 8 a b h

-- sums of four
pub sum4-same : {a b c d e f g h : ℕ} → a ≡ e → b ≡ f → c ≡ g → d ≡ h → sum4 a b c d ≡ sum4 e f g h
sum4-same p q r s = ap₂ bit_xor (ap₂ bit_xor (ap₂ bit_xor p q) r) s

pub sum4-lt : (a b c d : ℕ) → a < 256 → b < 256 → c < 256 → d < 256 → sum4 a b c d < 256
sum4-lt a b c d p q r s = xor_lt 8 (bit_xor (bit_xor a b) c) d (xor_lt 8 (bit_xor a b) c (xor_lt 8 a b p q) r) s

pub sum4_swap : (a b c d e f g h : ℕ) → bit_xor (sum4 a b c d) (sum4 e f g h) ≡ sum4 (bit_xor a e) (bit_xor b f) (bit_xor c g) (bit_xor d h)
sum4_swap a b c d e f g h =
    xor_swap (bit_xor (bit_xor a b) c) d (bit_xor (bit_xor e f) g) h
    ∙ ap (λ (z : ℕ). bit_xor z (bit_xor d h))
    (xor_swap (bit_xor a b) c (bit_xor e f) g ∙ ap (λ (z : ℕ). bit_xor z (bit_xor c g)) (xor_swap a b e f))

pub sum4-turn : (a b c d e f g h i j k l m n o p : ℕ)
    → sum4 (sum4 a b c d) (sum4 e f g h) (sum4 i j k l) (sum4 m n o p) ≡ sum4 (sum4 a e i m) (sum4 b f j n) (sum4 c g k o) (sum4 d h l p)
sum4-turn a b c d e f g h i j k l m n o p =
    ap (λ (z : ℕ). bit_xor (bit_xor z (sum4 i j k l)) (sum4 m n o p)) (sum4_swap a b c d e f g h)
    ∙ ap (λ (z : ℕ). bit_xor z (sum4 m n o p)) (sum4_swap (bit_xor a e) (bit_xor b f) (bit_xor c g) (bit_xor d h) i j k l)
    ∙ sum4_swap (bit_xor (bit_xor a e) i) (bit_xor (bit_xor b f) j) (bit_xor (bit_xor c g) k) (bit_xor (bit_xor d h) l) m n o p

pub sum4_of : (a : ℕ) (p q r s : ℕ) → mul a (sum4 p q r s) ≡ sum4 (mul a p) (mul a q) (mul a r) (mul a s)
sum4_of a p q r s =
    (mul_lin a).sums (bit_xor (bit_xor p q) r) s
    ∙ ap (λ (z : ℕ). bit_xor z (mul a s)) ((mul_lin a).sums (bit_xor p q) r ∙ ap (λ (z : ℕ). bit_xor z (mul a r)) ((mul_lin a).sums p q))
