-- RFC 7693, sections 2.6, 2.7, 3.1 and 3.2, for BLAKE2s: words of w = 32 bits, r = 10 rounds, bb = 64 bytes in a block.
use Rattle.std.specs.Prelude.{ℕ, zero, suc, ◌+◌, ◌/◌, ◌%◌, ◌^◌, ◌<◌, Bool, List, [], ◌∷◌, ◌++◌, bit_xor, slice_index, slice_index_or, slice_set}
use Rattle.base.specs.Pick.{pick}
use Rattle.base.specs.Lists.{tab}
use Rattle.words.specs.Word.{add32, rotr}
use Rattle.words.specs.declared.Quad.{Quad}

-- 2.6: word i is the first 32 bits behind the point of the square root of a prime, of the first eight in turn; appendix D lists them
unfoldable pub iv : List ℕ
iv =
    0x6A09E667
    ∷ 0xBB67AE85
    ∷ 0x3C6EF372
    ∷ 0xA54FF53A
    ∷ 0x510E527F
    ∷ 0x9B05688C
    ∷ 0x1F83D9AB
    ∷ 0x5BE0CD19
    ∷ []

-- 2.7: in which order each round takes the words of the message
unfoldable pub sigma : List (List ℕ)
sigma =
    (0 ∷ 1 ∷ 2 ∷ 3 ∷ 4 ∷ 5 ∷ 6 ∷ 7 ∷ 8 ∷ 9 ∷ 10 ∷ 11 ∷ 12 ∷ 13 ∷ 14 ∷ 15 ∷ [])
    ∷ (14 ∷ 10 ∷ 4 ∷ 8 ∷ 9 ∷ 15 ∷ 13 ∷ 6 ∷ 1 ∷ 12 ∷ 0 ∷ 2 ∷ 11 ∷ 7 ∷ 5 ∷ 3 ∷ [])
    ∷ (11 ∷ 8 ∷ 12 ∷ 0 ∷ 5 ∷ 2 ∷ 15 ∷ 13 ∷ 10 ∷ 14 ∷ 3 ∷ 6 ∷ 7 ∷ 1 ∷ 9 ∷ 4 ∷ [])
    ∷ (7 ∷ 9 ∷ 3 ∷ 1 ∷ 13 ∷ 12 ∷ 11 ∷ 14 ∷ 2 ∷ 6 ∷ 5 ∷ 10 ∷ 4 ∷ 0 ∷ 15 ∷ 8 ∷ [])
    ∷ (9 ∷ 0 ∷ 5 ∷ 7 ∷ 2 ∷ 4 ∷ 10 ∷ 15 ∷ 14 ∷ 1 ∷ 11 ∷ 12 ∷ 6 ∷ 8 ∷ 3 ∷ 13 ∷ [])
    ∷ (2 ∷ 12 ∷ 6 ∷ 10 ∷ 0 ∷ 11 ∷ 8 ∷ 3 ∷ 4 ∷ 13 ∷ 7 ∷ 5 ∷ 15 ∷ 14 ∷ 1 ∷ 9 ∷ [])
    ∷ (12 ∷ 5 ∷ 1 ∷ 15 ∷ 14 ∷ 13 ∷ 4 ∷ 10 ∷ 0 ∷ 7 ∷ 6 ∷ 3 ∷ 9 ∷ 2 ∷ 8 ∷ 11 ∷ [])
    ∷ (13 ∷ 11 ∷ 7 ∷ 14 ∷ 12 ∷ 1 ∷ 3 ∷ 9 ∷ 5 ∷ 0 ∷ 15 ∷ 4 ∷ 8 ∷ 6 ∷ 2 ∷ 10 ∷ [])
    ∷ (6 ∷ 15 ∷ 14 ∷ 9 ∷ 11 ∷ 3 ∷ 0 ∷ 8 ∷ 12 ∷ 2 ∷ 13 ∷ 7 ∷ 1 ∷ 4 ∷ 10 ∷ 5 ∷ [])
    ∷ (10 ∷ 2 ∷ 8 ∷ 4 ∷ 7 ∷ 6 ∷ 1 ∷ 5 ∷ 15 ∷ 11 ∷ 9 ∷ 14 ∷ 3 ∷ 12 ∷ 13 ∷ 0 ∷ [])
    ∷ []

-- 3.1: G mixes two words of the message into four words: the four words themselves, with the rotations 16, 12, 8 and 7 of 2.1
unfoldable pub mix : Quad → ℕ → ℕ → Quad
mix q x y =
    let a₁ = add32 (add32 q.a q.b) x in
    let d₁ = rotr 16 (bit_xor q.d a₁) in
    let c₁ = add32 q.c d₁ in
    let b₁ = rotr 12 (bit_xor q.b c₁) in
    let a₂ = add32 (add32 a₁ b₁) y in
    let d₂ = rotr 8 (bit_xor d₁ a₂) in
    let c₂ = add32 c₁ d₂ in
    let b₂ = rotr 7 (bit_xor b₁ c₂) in
    record { a = a₂; b = b₂; c = c₂; d = d₂ }

-- 3.1: G on the words of v at four places; the others stand
unfoldable pub mix_at : List ℕ → ℕ → ℕ → ℕ → ℕ → ℕ → ℕ → List ℕ
mix_at v a b c d x y =
    let q = mix (record { a = slice_index v a; b = slice_index v b; c = slice_index v c; d = slice_index v d }) x y in
    slice_set (slice_set (slice_set (slice_set v a q.a) b q.b) c q.c) d q.d

-- the word of the message that stands i-th in the order s
abbrev pub at : List ℕ → List ℕ → ℕ → ℕ
at m s i = slice_index m (slice_index s i)

-- 3.2: one round, with s its row of SIGMA: G on the four columns, then on the four diagonals
unfoldable pub round : List ℕ → List ℕ → List ℕ → List ℕ
round m s v =
    let v₁ = mix_at v 0 4 8 12 (at m s 0) (at m s 1) in
    let v₂ = mix_at v₁ 1 5 9 13 (at m s 2) (at m s 3) in
    let v₃ = mix_at v₂ 2 6 10 14 (at m s 4) (at m s 5) in
    let v₄ = mix_at v₃ 3 7 11 15 (at m s 6) (at m s 7) in
    let v₅ = mix_at v₄ 0 5 10 15 (at m s 8) (at m s 9) in
    let v₆ = mix_at v₅ 1 6 11 12 (at m s 10) (at m s 11) in
    let v₇ = mix_at v₆ 2 7 8 13 (at m s 12) (at m s 13) in
    mix_at v₇ 3 4 9 14 (at m s 14) (at m s 15)

-- 3.2: the first n rounds, round i with row i of SIGMA; BLAKE2s has ten rounds, so no row comes again
unfoldable pub rounds : ℕ → List ℕ → List ℕ → List ℕ
rounds zero m v = v
rounds (suc i) m v = round m (slice_index_or sigma i []) (rounds i m v)

-- v with x added to word i by xor
abbrev pub xor_at : List ℕ → ℕ → ℕ → List ℕ
xor_at v i x = slice_set v i (bit_xor (slice_index v i) x)

-- 3.2: h, then the IV; the count of bytes goes into words 12 (low) and 13 (high), and for the last block word 14 is inverted. The
-- high word of the count rolls over, so the count is taken modulo 2^64.
unfoldable pub vector : List ℕ → ℕ → Bool → List ℕ
vector h t f =
    let v = xor_at (xor_at (h ++ iv) 12 (t % 2 ^ 32)) 13 (t / 2 ^ 32 % 2 ^ 32) in
    pick f (xor_at v 14 0xFFFFFFFF) v

-- 3.2: word i of the new state, from both halves of v
abbrev pub joined_at : List ℕ → List ℕ → ℕ → ℕ
joined_at h v i = bit_xor (bit_xor (slice_index h i) (slice_index v i)) (slice_index v (i + 8))

-- 3.2: F, the compression of one block m at count t, the last one if f
unfoldable pub compress : List ℕ → List ℕ → ℕ → Bool → List ℕ
compress h m t f = tab 8 (joined_at h (rounds 10 m (vector h t f)))

-- every entry of a row is the place of a message word
abbrev pub Order : List ℕ → Type 0
Order s = (i : ℕ) → slice_index s i < 16
