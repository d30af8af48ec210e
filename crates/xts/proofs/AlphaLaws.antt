-- The tweak times alpha on four words is byte by byte.
use mathlib.Core.Path.{◌≡◌, refl, ap, ap₂, sym, ◌∙◌}
use mathlib.Core.List.{List, [], ◌∷◌}
use Prim.Native.Nat.{ℕ, zero, suc, ◌+◌, ◌*◌, ◌/◌, ◌%◌, ◌^◌, ◌<◌}
use native.Mathlib.Nat.{mul_comm}
use native.Mathlib.Omega.{arith}
use lib.Bits.{bit_xor, xor_shifted, xor_zero_r}
use lib.Dec.{lit<}
use Rattle.base.specs.Lists.{tab}
use Rattle.words.specs.Le.{num, le, serialised}
use Rattle.words.specs.Xor.{xorl}
use Rattle.words.proofs.LeLaws.{le-num, num-le}
use Rattle.aes.specs.Code.{state_bytes}
use Rattle.aes.specs.declared.Columns.{Columns}
use Rattle.aes.proofs.StateLaws.{app}
use Rattle.aes.proofs.WordLaws.{four_bytes, le-xor}
use Rattle.xts.specs.Xts.{carried, times_alpha}

-- a word of the tweak, and the digit that it takes over
abbrev alpha_word : ℕ → ℕ → ℕ → ℕ → ℕ → List ℕ
alpha_word p q r s c = bit_xor (2 * (p % 128)) c ∷ bit_xor (2 * (q % 128)) (p / 128) ∷ bit_xor (2 * (r % 128)) (q / 128) ∷ bit_xor (2 * (s % 128)) (r / 128) ∷ []

sum-xor : (y b : ℕ) → b < 2 → 2 * y + b ≡ bit_xor (2 * y) b
sum-xor y b h = ap (λ (z : ℕ). z + b) (mul_comm 2 y) ∙ sym (xor_shifted y 1 b h) ∙ ap (λ (z : ℕ). bit_xor z b) (mul_comm y 2)

moved : (p q r s c : ℕ) → p < 256 → q < 256 → r < 256 → s < 256 → c < 2
    → le 4 (num (p ∷ q ∷ r ∷ s ∷ []) % 2147483648 * 2 + c) ≡ (2 * (p % 128) + c) ∷ (2 * (q % 128) + p / 128) ∷ (2 * (r % 128) + q / 128) ∷ (2 * (s % 128) + r / 128) ∷ []
unfolding num
moved p q r s c hp hq hr hs hc =
    let l : List ℕ = (2 * (p % 128) + c) ∷ (2 * (q % 128) + p / 128) ∷ (2 * (r % 128) + q / 128) ∷ (2 * (s % 128) + r / 128) ∷ [] in
    let low : (p + 256 * (q + 256 * (r + 256 * (s + 256 * 0)))) % 2147483648 ≡ p + 256 * (q + 256 * (r + 256 * (s % 128))) = omega arith in
    let e : (p + 256 * (q + 256 * (r + 256 * (s + 256 * 0)))) % 2147483648 * 2 + c ≡ num l = rw low (omega arith) in
    ap (le 4) e ∙ le-num l (four_bytes _ _ _ _ (omega arith) (omega arith) (omega arith) (omega arith))

bytes_back : (x : ℕ) → x < 2 ^ 32 → x ≡ num (x % 256 ∷ x / 256 % 256 ∷ x / 256 / 256 % 256 ∷ x / 256 / 256 / 256 % 256 ∷ [])
unfolding le
bytes_back x h = sym (num-le 4 x h)

word_next : (x c : ℕ) → x < 2 ^ 32 → c < 2 → le 4 (x % 2147483648 * 2 + c) ≡ alpha_word (x % 256) (x / 256 % 256) (x / 256 / 256 % 256) (x / 256 / 256 / 256 % 256) c
word_next x c h l =
    let p = x % 256 in
    let q = x / 256 % 256 in
    let r = x / 256 / 256 % 256 in
    let s = x / 256 / 256 / 256 % 256 in
    let e0 = sum-xor (p % 128) c l in
    let e1 = sum-xor (q % 128) (p / 128) (omega arith) in
    let e2 = sum-xor (r % 128) (q / 128) (omega arith) in
    let e3 = sum-xor (s % 128) (r / 128) (omega arith) in
    ap (λ (z : ℕ). le 4 (z % 2147483648 * 2 + c)) (bytes_back x h)
    ∙ moved p q r s c (omega arith) (omega arith) (omega arith) (omega arith) l
    ∙ (λ i. e0 i ∷ e1 i ∷ e2 i ∷ e3 i ∷ [])

-- the digit that a word hands on is its top byte's
top : (x : ℕ) → x < 2 ^ 32 → x / 2147483648 ≡ x / 256 / 256 / 256 % 256 / 128
top x h = omega arith

digit : (o : ℕ) → o < 2 → le 4 (o * 135) ≡ 135 * o ∷ 0 ∷ 0 ∷ 0 ∷ []
unfolding le
digit zero h = refl
digit (suc zero) h = refl
digit (suc (suc o)) h = absurd (omega arith)

word_first : (x o : ℕ) → x < 2 ^ 32 → o < 2
    → le 4 (bit_xor (x % 2147483648 * 2) (o * 135)) ≡ alpha_word (x % 256) (x / 256 % 256) (x / 256 / 256 % 256) (x / 256 / 256 / 256 % 256) (135 * o)
unfolding xorl
word_first x o h l =
    let p = x % 256 in
    let q = x / 256 % 256 in
    let r = x / 256 / 256 % 256 in
    let s = x / 256 / 256 / 256 % 256 in
    let plain : x % 2147483648 * 2 ≡ x % 2147483648 * 2 + 0 = omega arith in
    let e0 = xor_zero_r (2 * (p % 128)) in
    let e1 = xor_zero_r (bit_xor (2 * (q % 128)) (p / 128)) in
    let e2 = xor_zero_r (bit_xor (2 * (r % 128)) (q / 128)) in
    let e3 = xor_zero_r (bit_xor (2 * (s % 128)) (r / 128)) in
    le-xor 4 (x % 2147483648 * 2) (o * 135)
    ∙ ap₂ xorl (ap (le 4) plain ∙ word_next x 0 h (lit< tt)) (digit o l)
    ∙ (λ i. bit_xor (e0 i) (135 * o) ∷ e1 i ∷ e2 i ∷ e3 i ∷ [])

pub next_is : (t : Columns) → t.a < 2 ^ 32 → t.b < 2 ^ 32 → t.c < 2 ^ 32 → t.d < 2 ^ 32
    → state_bytes
    (record {
      a = bit_xor (t.a % 2147483648 * 2) (t.d / 2147483648 * 135);
      b = t.b % 2147483648 * 2 + t.a / 2147483648;
      c = t.c % 2147483648 * 2 + t.b / 2147483648;
      d = t.d % 2147483648 * 2 + t.c / 2147483648;
    })
    ≡ times_alpha (state_bytes t)
unfolding state_bytes serialised times_alpha carried tab le
next_is t ha hb hc hd =
    let word : ℕ → ℕ → List ℕ = λ x k. alpha_word (x % 256) (x / 256 % 256) (x / 256 / 256 % 256) (x / 256 / 256 / 256 % 256) k in
    ap₂ app (word_first t.a (t.d / 2147483648) ha (omega arith) ∙ ap (λ (o : ℕ). word t.a (135 * o)) (top t.d hd))
    (ap₂ app (word_next t.b (t.a / 2147483648) hb (omega arith) ∙ ap (word t.b) (top t.a ha))
    (ap₂ app (word_next t.c (t.b / 2147483648) hc (omega arith) ∙ ap (word t.c) (top t.b hb))
    (ap₂ app (word_next t.d (t.c / 2147483648) hd (omega arith) ∙ ap (word t.d) (top t.c hc)) refl)))
