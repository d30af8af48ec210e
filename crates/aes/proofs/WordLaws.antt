-- Words and their four bytes: the xor of words is the xor of their bytes, and a word turned is its bytes turned.
use mathlib.Core.Path.{◌≡◌, refl, ap, ap₂, sym, ◌∙◌}
use mathlib.Core.List.{List, [], ◌∷◌}
use Prim.Native.Nat.{ℕ, zero, suc, ◌+◌, ◌*◌, ◌/◌, ◌%◌, ◌^◌, ◌<◌}
use native.Mathlib.Omega.{arith}
use lib.Bits.{bit_xor, xor_block, xor_mod, xor_shr, xor_lt, or_shifted}
use lib.Dec.{lit<}
use lib.ListN.{length}
use Rattle.words.specs.Word.{rotl}
use Rattle.words.specs.Le.{num, le, Bytes}
use Rattle.words.specs.Xor.{xorl}
use Rattle.words.proofs.LeLaws.{le-num}

pub num-xor : (a b : List ℕ) → length a ≡ length b → Bytes a → Bytes b → num (xorl a b) ≡ bit_xor (num a) (num b)
unfolding num xorl
num-xor [] [] e p q = refl
num-xor [] (y ∷ b) e p q = absurd (omega arith)
num-xor (x ∷ a) [] e p q = absurd (omega arith)
num-xor (x ∷ a) (y ∷ b) e p q =
    let turn : (u v : ℕ) → u + 256 * v ≡ v * 256 + u = λ u v. omega arith in
    rw (num-xor a b (omega arith) (λ i. p (suc i)) (λ i. q (suc i)))
    (turn (bit_xor x y) (bit_xor (num a) (num b))
    ∙ sym (xor_block 8 (num a) (num b) x y (p 0) (q 0))
    ∙ ap₂ bit_xor (sym (turn x (num a))) (sym (turn y (num b))))

pub le-xor : (k x y : ℕ) → le k (bit_xor x y) ≡ xorl (le k x) (le k y)
unfolding le xorl
le-xor zero x y = refl
le-xor (suc k) x y =
    ap₂ (λ (z : ℕ) (l : List ℕ). z ∷ l) (xor_mod x y 8) (ap (le k) (xor_shr x y 8) ∙ le-xor k (x / 256) (y / 256))

pub xorl-bytes : (a b : List ℕ) → Bytes a → Bytes b → Bytes (xorl a b)
unfolding xorl
xorl-bytes [] b p q i = lit< tt
xorl-bytes (x ∷ a) [] p q i = p i
xorl-bytes (x ∷ a) (y ∷ b) p q zero = xor_lt 8 x y (p 0) (q 0)
xorl-bytes (x ∷ a) (y ∷ b) p q (suc i) = xorl-bytes a b (λ j. p (suc j)) (λ j. q (suc j)) i

pub four_bytes : (p q r s : ℕ) → p < 256 → q < 256 → r < 256 → s < 256 → Bytes (p ∷ q ∷ r ∷ s ∷ [])
four_bytes p q r s hp hq hr hs zero = hp
four_bytes p q r s hp hq hr hs (suc zero) = hq
four_bytes p q r s hp hq hr hs (suc (suc zero)) = hr
four_bytes p q r s hp hq hr hs (suc (suc (suc zero))) = hs
four_bytes p q r s hp hq hr hs (suc (suc (suc (suc i)))) = lit< tt

-- four bytes with a word laid over them
pub keyed : (l : List ℕ) (k : ℕ) → length l ≡ 4 → Bytes l → le 4 (bit_xor (num l) k) ≡ xorl l (le 4 k)
keyed l k e h =
    le-xor 4 (num l) k ∙ ap (λ (z : List ℕ). xorl z (le 4 k)) (ap (λ (n : ℕ). le n (num l)) (sym e) ∙ le-num l h)

-- a word turned by one, two and three bytes
module _ (p q r s : ℕ) (hp : p < 256) (hq : q < 256) (hr : r < 256) (hs : s < 256) where
  abbrev x : ℕ
  x = p + 256 * (q + 256 * (r + 256 * (s + 256 * 0)))

  pub rot8 : rotl 8 (num (p ∷ q ∷ r ∷ s ∷ [])) ≡ num (s ∷ p ∷ q ∷ r ∷ [])
  unfolding num
  rot8 =
      let y = p + 256 * (q + 256 * r) in
      let low : x * 2 ^ 8 % 2 ^ 32 ≡ y * 2 ^ 8 = omega arith in
      let high : x / 2 ^ 24 ≡ s = omega arith in
      rw (low, high) (or_shifted y 8 s hs ∙ omega arith)

  pub rot16 : rotl 16 (num (p ∷ q ∷ r ∷ s ∷ [])) ≡ num (r ∷ s ∷ p ∷ q ∷ [])
  unfolding num
  rot16 =
      let y = p + 256 * q in
      let low : x * 2 ^ 16 % 2 ^ 32 ≡ y * 2 ^ 16 = omega arith in
      let high : x / 2 ^ 16 ≡ r + 256 * s = omega arith in
      rw (low, high) (or_shifted y 16 (r + 256 * s) (omega arith) ∙ omega arith)

  pub rot24 : rotl 24 (num (p ∷ q ∷ r ∷ s ∷ [])) ≡ num (q ∷ r ∷ s ∷ p ∷ [])
  unfolding num
  rot24 =
      let low : x * 2 ^ 24 % 2 ^ 32 ≡ p * 2 ^ 24 = omega arith in
      let high : x / 2 ^ 8 ≡ q + 256 * (r + 256 * s) = omega arith in
      rw (low, high) (or_shifted p 24 (q + 256 * (r + 256 * s)) (omega arith) ∙ omega arith)
