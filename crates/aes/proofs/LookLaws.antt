-- What is looked up in a table of columns: the column multiplied by a fixed matrix, over any matrix and any rule for the bytes.
use mathlib.Core.Path.{◌≡◌, refl, ap, sym, ◌∙◌}
use mathlib.Core.List.{List, [], ◌∷◌}
use Prim.Native.Nat.{ℕ, ◌/◌, ◌%◌, ◌<◌}
use native.Mathlib.Omega.{arith}
use lib.Bits.{bit_xor}
use lib.ListN.{length, get_or}
use Rattle.words.specs.Word.{rotl}
use Rattle.words.specs.Le.{num, le, Bytes}
use Rattle.words.specs.Xor.{xorl}
use Rattle.field.specs.Field.{mul, sum4, matrix}
use Rattle.field.proofs.FieldLaws.{mul-lt, sum4-lt, sum4-same}
use Rattle.aes.specs.Code.{looked_up, rows_by}
use Rattle.aes.proofs.WordLaws.{num-xor, xorl-bytes, four_bytes, keyed, rot8, rot16, rot24}

module _ (k l m n : ℕ) where
  -- the column that the matrix of [k, l, m, n] makes of x, 0, 0, 0
  abbrev pub entry : ℕ → ℕ
  entry x = num (mul k x ∷ mul l x ∷ mul m x ∷ mul n x ∷ [])

  pub matrix-bytes : (a b c d : ℕ) → a < 256 → b < 256 → c < 256 → d < 256 → Bytes (matrix k l m n a b c d)
  unfolding matrix
  matrix-bytes a b c d p q r s =
      let one : (x y z w : ℕ) → sum4 (mul x a) (mul y b) (mul z c) (mul w d) < 256
      = λ x y z w. sum4-lt (mul x a) (mul y b) (mul z c) (mul w d) (mul-lt x a p) (mul-lt y b q) (mul-lt z c r) (mul-lt w d s) in
      four_bytes _ _ _ _ (one k n m l) (one l k n m) (one m l k n) (one n m l k)

  pub matrix-long : (a b c d : ℕ) → length (matrix k l m n a b c d) ≡ 4
  unfolding matrix
  matrix-long a b c d = refl

  -- four entries, each turned to its row, add up to the column
  added-up : (a b c d : ℕ) → a < 256 → b < 256 → c < 256 → d < 256
      → sum4 (entry a) (rotl 8 (entry b)) (rotl 16 (entry c)) (rotl 24 (entry d)) ≡ num (matrix k l m n a b c d)
  unfolding xorl matrix
  added-up a b c d p q r s =
      let first : List ℕ = mul k a ∷ mul l a ∷ mul m a ∷ mul n a ∷ [] in
      let second : List ℕ = mul n b ∷ mul k b ∷ mul l b ∷ mul m b ∷ [] in
      let third : List ℕ = mul m c ∷ mul n c ∷ mul k c ∷ mul l c ∷ [] in
      let fourth : List ℕ = mul l d ∷ mul m d ∷ mul n d ∷ mul k d ∷ [] in
      let b1 : Bytes first = four_bytes _ _ _ _ (mul-lt k a p) (mul-lt l a p) (mul-lt m a p) (mul-lt n a p) in
      let b2 : Bytes second = four_bytes _ _ _ _ (mul-lt n b q) (mul-lt k b q) (mul-lt l b q) (mul-lt m b q) in
      let b3 : Bytes third = four_bytes _ _ _ _ (mul-lt m c r) (mul-lt n c r) (mul-lt k c r) (mul-lt l c r) in
      let b4 : Bytes fourth = four_bytes _ _ _ _ (mul-lt l d s) (mul-lt m d s) (mul-lt n d s) (mul-lt k d s) in
      let b12 = xorl-bytes first second b1 b2 in
      let b123 = xorl-bytes (xorl first second) third b12 b3 in
      sum4-same {a = num first} refl
      (rot8 (mul k b) (mul l b) (mul m b) (mul n b) (mul-lt k b q) (mul-lt l b q) (mul-lt m b q) (mul-lt n b q))
      (rot16 (mul k c) (mul l c) (mul m c) (mul n c) (mul-lt k c r) (mul-lt l c r) (mul-lt m c r) (mul-lt n c r))
      (rot24 (mul k d) (mul l d) (mul m d) (mul n d) (mul-lt k d s) (mul-lt l d s) (mul-lt m d s) (mul-lt n d s))
      ∙ sym
      (num-xor (xorl (xorl first second) third) fourth refl b123 b4
      ∙ ap (λ (z : ℕ). bit_xor z (num fourth))
      (num-xor (xorl first second) third refl b12 b3 ∙ ap (λ (z : ℕ). bit_xor z (num third)) (num-xor first second refl b1 b2)))

  -- t has the entries of f x, and f gives bytes
  module _ (t : List ℕ) (f : ℕ → ℕ) (has : (x : ℕ) → x < 256 → get_or t x 0 ≡ entry (f x)) (small : (x : ℕ) → x < 256 → f x < 256) where
    pub looked_up_lem : (a b c d : ℕ)
        → looked_up t a b c d ≡ num (matrix k l m n (f (a % 256)) (f (b / 256 % 256)) (f (c / 256 / 256 % 256)) (f (d / 256 / 256 / 256 % 256)))
    unfolding looked_up
    looked_up_lem a b c d =
        let a' = a % 256 in
        let b' = b / 256 % 256 in
        let c' = c / 256 / 256 % 256 in
        let d' = d / 256 / 256 / 256 % 256 in
        sum4-same (has a' (omega arith)) (ap (λ (z : ℕ). rotl 8 z) (has b' (omega arith))) (ap (λ (z : ℕ). rotl 16 z) (has c' (omega arith)))
        (ap (λ (z : ℕ). rotl 24 z) (has d' (omega arith)))
        ∙ added-up (f a') (f b') (f c') (f d') (small a' (omega arith)) (small b' (omega arith)) (small c' (omega arith)) (small d' (omega arith))

    -- the same with a word of the key, as bytes
    pub column_keyed : (a b c d key : ℕ) {p : ℕ} → p ≡ looked_up t a b c d
        → le 4 (bit_xor p key) ≡ xorl (matrix k l m n (f (a % 256)) (f (b / 256 % 256)) (f (c / 256 / 256 % 256)) (f (d / 256 / 256 / 256 % 256))) (le 4 key)
    column_keyed a b c d key e =
        ap (λ (z : ℕ). le 4 (bit_xor z key)) (e ∙ looked_up_lem a b c d)
        ∙ keyed (matrix k l m n (f (a % 256)) (f (b / 256 % 256)) (f (c / 256 / 256 % 256)) (f (d / 256 / 256 / 256 % 256))) key
        (matrix-long _ _ _ _)
        (matrix-bytes _ _ _ _ (small (a % 256) (omega arith)) (small (b / 256 % 256) (omega arith)) (small (c / 256 / 256 % 256) (omega arith))
        (small (d / 256 / 256 / 256 % 256) (omega arith)))

-- four bytes by a rule, with a word of the key
pub rows-keyed : (f : ℕ → ℕ) → ((x : ℕ) → x < 256 → f x < 256) → (a b c d key : ℕ) {p : ℕ} → p ≡ rows_by f a b c d
    → le 4 (bit_xor p key) ≡ xorl (f (a % 256) ∷ f (b / 256 % 256) ∷ f (c / 256 / 256 % 256) ∷ f (d / 256 / 256 / 256 % 256) ∷ []) (le 4 key)
unfolding rows_by
rows-keyed f small a b c d key e =
    ap (λ (z : ℕ). le 4 (bit_xor z key)) e
    ∙ keyed (f (a % 256) ∷ f (b / 256 % 256) ∷ f (c / 256 / 256 % 256) ∷ f (d / 256 / 256 / 256 % 256) ∷ []) key refl
    (four_bytes _ _ _ _ (small (a % 256) (omega arith)) (small (b / 256 % 256) (omega arith)) (small (c / 256 / 256 % 256) (omega arith))
    (small (d / 256 / 256 / 256 % 256) (omega arith)))
