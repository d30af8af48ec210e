-- Counter blocks: from numbers to words, and no two pairs of numbers have one block.
use Rattle.std.proofs.Common.{◌≡◌, ℕ, zero, suc, ◌+◌, ◌*◌, ◌/◌, ◌%◌, ◌^◌, ◌<◌, List, [], ◌∷◌, ◌++◌, length, get_or, take, drop, sym, refl, ap, ◌∙◌, ap₂, mod-eq_of_lt, mul_comm, pow-suc, arith, lit<}
use native.Mathlib.Nat.{one-le-pow}
use lib.Arith.{mod-mul}
use Rattle.std.specs.Int.{to_be_bytes, w64}
use Rattle.words.specs.Le.{Bytes}
use Rattle.words.proofs.LeLaws.{bytes-append}
use Rattle.aes.proofs.StateLaws.{State}
use Rattle.ctr.specs.Ctr.{be, counter_block}

be-bytes : (k x : ℕ) → Bytes (be k x)
unfolding be
be-bytes zero x i = lit< tt
be-bytes (suc k) x zero = let q = x / 256 ^ k in let h : q % 256 < 256 = omega arith in h
be-bytes (suc k) x (suc i) = be-bytes k x i

be_is : (x : ℕ) → to_be_bytes w64 x ≡ be 8 x
unfolding be
be_is x =
    let low : x % 256 ≡ x / 1 % 256 = omega arith in
    λ i. x / 256 ^ 7 % 256 ∷ x / 256 ^ 6 % 256 ∷ x / 256 ^ 5 % 256 ∷ x / 256 ^ 4 % 256 ∷ x / 256 ^ 3 % 256 ∷ x / 256 ^ 2 % 256 ∷ x / 256 % 256 ∷ low i ∷ []

abbrev app : List ℕ → List ℕ → List ℕ
app x y = x ++ y

pub counter_is : (k n : ℕ) → to_be_bytes w64 k ++ to_be_bytes w64 n ≡ counter_block k n
unfolding counter_block
counter_is k n = ap₂ app (be_is k) (be_is n)

counter-long : (k n : ℕ) → length (be 8 k ++ be 8 n) ≡ 16
unfolding be
counter-long k n = refl

pub counter-state : (k n : ℕ) → State (counter_block k n)
unfolding counter_block
counter-state k n = record { long = counter-long k n; bytes = bytes-append (be 8 k) (be 8 n) (be-bytes 8 k) (be-bytes 8 n) }

be-low : (k x y : ℕ) → be k x ≡ be k y → x % 256 ^ k ≡ y % 256 ^ k
unfolding be
be-low zero x y e = let p : x % 1 ≡ y % 1 = omega arith in p
be-low (suc k) x y e =
    let pos : 0 < 256 ^ k = one-le-pow k 256 (lit< tt) in
    let cut : (z : ℕ) → z % 256 ^ suc k ≡ z / 256 ^ k % 256 * 256 ^ k + z % 256 ^ k
    = λ z. ap (λ (m : ℕ). z % m) (pow-suc 256 k ∙ mul_comm (256 ^ k) 256) ∙ mod-mul z (lit< tt) pos in
    cut x
    ∙ ap₂ (λ (a b : ℕ). a * 256 ^ k + b) (ap (λ (l : List ℕ). get_or l 0 0) e) (be-low k x y (ap (λ (l : List ℕ). drop 1 l) e))
    ∙ sym (cut y)

be-once : (x y : ℕ) → x < 2 ^ 64 → y < 2 ^ 64 → be 8 x ≡ be 8 y → x ≡ y
be-once x y h l e =
    let p : x % 2 ^ 64 ≡ y % 2 ^ 64 = be-low 8 x y e in
    sym (mod-eq_of_lt h) ∙ p ∙ mod-eq_of_lt l

-- no two pairs of numbers have one counter block
pub counter-once : (k l n m : ℕ) → k < 2 ^ 64 → l < 2 ^ 64 → n < 2 ^ 64 → m < 2 ^ 64 → counter_block k n ≡ counter_block l m → (k ≡ l) × (n ≡ m)
unfolding counter_block be
counter-once k l n m hk hl hn hm e = (be-once k l hk hl (ap (λ (z : List ℕ). take 8 z) e), be-once n m hn hm (ap (λ (z : List ℕ). drop 8 z) e))
