-- RFC 8439, sections 2.1 to 2.4. A state is a list of sixteen 32-bit words.
use Rattle.std.specs.Prelude.{ℕ, zero, suc, ◌+◌, ◌/◌, List, [], ◌∷◌, ◌++◌, length, bit_xor, slice_index, slice_set}
use Rattle.base.specs.Lists.{tab}
use Rattle.words.specs.Word.{add32, rotl}
use Rattle.words.specs.Le.{words_of, serialised}
use Rattle.words.specs.Xor.{xorl}
use Rattle.words.specs.declared.Quad.{Quad}

-- 2.1: the quarter round, four times a sum, a xor and a rotation to the left, by 16, 12, 8 and 7 bits
unfoldable pub quarter : ℕ → ℕ → ℕ → ℕ → Quad
quarter a b c d =
    let a₁ = add32 a b in
    let d₁ = rotl 16 (bit_xor d a₁) in
    let c₁ = add32 c d₁ in
    let b₁ = rotl 12 (bit_xor b c₁) in
    let a₂ = add32 a₁ b₁ in
    let d₂ = rotl 8 (bit_xor d₁ a₂) in
    let c₂ = add32 c₁ d₂ in
    let b₂ = rotl 7 (bit_xor b₁ c₂) in
    record { a = a₂; b = b₂; c = c₂; d = d₂ }

-- 2.2: QUARTERROUND(i, j, k, l), the quarter round on the words at four places; the others stand
unfoldable pub quarter_at : ℕ → ℕ → ℕ → ℕ → List ℕ → List ℕ
quarter_at i j k l s =
    let q = quarter (slice_index s i) (slice_index s j) (slice_index s k) (slice_index s l) in
    slice_set (slice_set (slice_set (slice_set s i q.a) j q.b) k q.c) l q.d

-- the state whose four diagonals, QUARTERROUND(0, 5, 10, 15) to (3, 4, 9, 14), are given
abbrev pub from_diagonals : Quad → Quad → Quad → Quad → List ℕ
from_diagonals p0 p1 p2 p3 =
    p0.a ∷ p1.a ∷ p2.a ∷ p3.a ∷ p3.b ∷ p0.b ∷ p1.b ∷ p2.b
    ∷ p2.c ∷ p3.c ∷ p0.c ∷ p1.c ∷ p1.d ∷ p2.d ∷ p3.d ∷ p0.d ∷ []

-- 2.3 and 2.3.1: quarter rounds on the four columns, then on the four diagonals
unfoldable pub double_round : List ℕ → List ℕ
double_round s =
    let s₁ = quarter_at 0 4 8 12 s in
    let s₂ = quarter_at 1 5 9 13 s₁ in
    let s₃ = quarter_at 2 6 10 14 s₂ in
    let s₄ = quarter_at 3 7 11 15 s₃ in
    let s₅ = quarter_at 0 5 10 15 s₄ in
    let s₆ = quarter_at 1 6 11 12 s₅ in
    let s₇ = quarter_at 2 7 8 13 s₆ in
    quarter_at 3 4 9 14 s₇

unfoldable pub double_rounds : ℕ → List ℕ → List ℕ
double_rounds zero s = s
double_rounds (suc n) s = double_round (double_rounds n s)

-- 2.3: twenty rounds, columns and diagonals in turn
abbrev pub twenty_rounds : List ℕ → List ℕ
twenty_rounds s = double_rounds 10 s

-- 2.3: the constants, the key's eight words, the block counter, the nonce's three words
unfoldable pub start : List ℕ → List ℕ → ℕ → List ℕ
start key nonce counter =
    (0x61707865 ∷ 0x3320646e ∷ 0x79622d32 ∷ 0x6b206574 ∷ []) ++ (words_of 8 key ++ (counter ∷ words_of 3 nonce))

-- 2.3: after the rounds each word of the start state is added to the word at its place
unfoldable pub added : List ℕ → List ℕ → List ℕ
added w s = tab 16 (λ i. add32 (slice_index w i) (slice_index s i))

-- 2.3: twenty rounds over a start state, and the sum; its words in their order, each with its lowest byte first
unfoldable pub block_from : List ℕ → List ℕ
block_from s = serialised (added (twenty_rounds s) s)

-- 2.3: the block function
unfoldable pub block_of : List ℕ → List ℕ → ℕ → List ℕ
block_of key nonce counter = block_from (start key nonce counter)

-- 2.4: block after block, the counter one higher for each; after block 2^32 - 1 comes block 0
unfoldable pub keystream : List ℕ → List ℕ → ℕ → ℕ → List ℕ
keystream key nonce counter zero = []
keystream key nonce counter (suc n) = keystream key nonce counter n ++ block_of key nonce (add32 counter n)

-- as many blocks as n bytes take
abbrev pub blocks : ℕ → ℕ
blocks n = (n + 63) / 64

-- 2.4: the text xor the keystream; what the last block has past the end of the text is dropped
unfoldable pub encrypted : List ℕ → List ℕ → ℕ → List ℕ → List ℕ
encrypted key nonce counter text = xorl text (keystream key nonce counter (blocks (length text)))
