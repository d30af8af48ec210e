-- Laws of bytes and words that the state's laws rest on.
use mathlib.Core.Path.{◌≡◌, refl, ap, sym, ◌∙◌}
use mathlib.Core.List.{List, [], ◌∷◌, ◌++◌}
use Prim.Native.Nat.{ℕ, zero, suc, ◌+◌, ◌*◌, ◌^◌, ◌<◌}
use native.Mathlib.Nat.{lt_of_le_of_lt}
use native.Mathlib.Omega.{arith}
use lib.Bits.{bit_and, and_block, and_le_r}
use lib.Dec.{lit<}
use lib.ListN.{length, drop, set, replicate}
use lib.Seq.{sets, drop-cons, set_at}
use Rattle.base.proofs.PartLaws.{sets-front}
use Rattle.words.specs.Le.{num}
use Rattle.limbs.specs.Limbs.{quad, p}
use Rattle.poly1305.specs.Poly1305.{clamp}
use Rattle.poly1305.specs.State.{zero_block}
use Rattle.words.proofs.LeLaws.{num-append}

-- masks act word by word
and_up : (w v y z : ℕ) → w < 2 ^ 32 → v < 2 ^ 32 → bit_and (w + 2 ^ 32 * y) (v + 2 ^ 32 * z) ≡ bit_and w v + 2 ^ 32 * bit_and y z
and_up w v y z h k =
    let e : w + 2 ^ 32 * y ≡ y * 2 ^ 32 + w = omega arith in
    let f : v + 2 ^ 32 * z ≡ z * 2 ^ 32 + v = omega arith in
    rw (e, f, and_block 32 y z w v h k) (flip (bit_and y z) (bit_and w v))
  where
    flip : (a b : ℕ) → a * 2 ^ 32 + b ≡ b + 2 ^ 32 * a
    flip a b = omega arith

-- the clamp, word by word
pub clamp-quad : (a b c d : ℕ) → a < 2 ^ 32 → b < 2 ^ 32 → c < 2 ^ 32
    → quad (bit_and a 0x0fffffff) (bit_and b 0x0ffffffc) (bit_and c 0x0ffffffc) (bit_and d 0x0ffffffc) ≡ clamp (quad a b c d)
unfolding quad clamp
clamp-quad a b c d ha hb hc =
    sym
    (and_up a 0x0fffffff (b + 2 ^ 32 * (c + 2 ^ 32 * d)) 0x0ffffffc0ffffffc0ffffffc ha (lit< tt)
    ∙ ap (λ (z : ℕ). bit_and a 0x0fffffff + 2 ^ 32 * z)
    (and_up b 0x0ffffffc (c + 2 ^ 32 * d) 0x0ffffffc0ffffffc hb (lit< tt)
    ∙ ap (λ (z : ℕ). bit_and b 0x0ffffffc + 2 ^ 32 * z) (and_up c 0x0ffffffc d 0x0ffffffc hc (lit< tt))))

pub clamp-lt : (r : ℕ) → clamp r < p
unfolding clamp p
clamp-lt r = lt_of_le_of_lt (and_le_r r 0x0ffffffc0ffffffc0ffffffc0fffffff) (lit< tt)

num-zeros : (n k : ℕ) → num (drop k (replicate n 0)) ≡ 0
unfolding num
num-zeros zero zero = refl
num-zeros zero (suc k) = refl
num-zeros (suc n) zero = rw (num-zeros n 0)
num-zeros (suc n) (suc k) = num-zeros n k

one-zeros : (n : ℕ) → num (1 ∷ drop (suc n) zero_block) ≡ num (1 ∷ [])
unfolding num
one-zeros n = rw (num-zeros 16 (suc n))

-- bytes laid into zeros with a 1 behind them
pub num-laid : (v : List ℕ) (n : ℕ) → length v ≡ n → n < 16 → num (set (sets zero_block 0 v) n 1) ≡ num (v ++ (1 ∷ []))
num-laid v n e h =
    let list : set (sets zero_block 0 v) n 1 ≡ v ++ (1 ∷ drop (suc n) zero_block) =
    rw (sets-front zero_block v (omega arith), e, drop-cons zero_block n 0 h) (set_at v _ (drop (suc n) zero_block) 1 n e) in
    rw (list, num-append v (1 ∷ drop (suc n) zero_block), num-append v (1 ∷ []), one-zeros n)
