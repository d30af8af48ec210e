-- Both ciphers are lawful, and the keystreams of RFC 8439 and of SP 800-38A are their blocks, one after the other.
use mathlib.Core.Path.{◌≡◌, refl, ap, sym, ◌∙◌}
use mathlib.Core.Bool.{Bool, true, false}
use mathlib.Core.Logic.{◌⊎◌, inl, inr}
use mathlib.Core.List.{List, [], ◌++◌}
use Prim.Native.Nat.{ℕ, zero, suc, ◌+◌, ◌-◌, ◌*◌, ◌/◌, ◌%◌, ◌^◌, ◌<◌, ◌≤◌}
use native.Mathlib.Nat.{suc-mul, mod-eq_of_lt}
use native.Mathlib.Omega.{arith}
use borrow.Author.Tests.{ltb-true, ltb-false}
use lib.Arith.{digits_div, digits_mod}
use lib.Dec.{eqb, ltb, lit<}
use lib.ListN.{length, get_or, drop, length-append, get_or-append}
use lib.Seq.{get_or-append-add}
use Rattle.base.proofs.PickLaws.{told}
use Rattle.words.specs.Word.{add32}
use Rattle.words.specs.Le.{num, le}
use Rattle.words.proofs.LeLaws.{num-le}
use Rattle.chacha20.specs.ChaCha20.{block_of, keystream}
use Rattle.chacha20.proofs.BlockLaws.{length-block, block-bytes}
use Rattle.aes.specs.Aes.{cipher, key_expansion, aes256}
use Rattle.aes.proofs.StateLaws.{cipher-state, length-aes}
use Rattle.ctr.specs.Ctr.{counter_block, stepped, output_blocks}
use Rattle.ctr.proofs.CounterLaws.{counter-state, counter-once}
use Rattle.keys.specs.Ciphers.{Lawful, stream_byte, nonce_of, Nonced, chacha20, aes, cipher_by, cipher_of}
use Rattle.keys.specs.Pads.{unit_of}

-- no two keycounts have one nonce
pub nonce-once : (k l : ℕ) → k < 2 ^ 64 → l < 2 ^ 64 → nonce_of k ≡ nonce_of l → k ≡ l
unfolding nonce_of
nonce-once k l h m e =
    let counts : le 8 k ≡ le 8 l = ap (λ (z : List ℕ). drop 4 z) e in
    sym (num-le 8 k h) ∙ ap num counts ∙ num-le 8 l m

pub chacha20_lawful : Lawful chacha20
chacha20_lawful =
    record {
      some = lit< tt;
      whole = λ size e. e;
      long = λ key k n. length-block key (nonce_of k) n;
      bytes = λ key k n. block-bytes key (nonce_of k) n;
      once = λ k l m n hk hl hm hn e. (nonce-once k l hk hl (ap (λ (x : Nonced). x.nonce) e), ap (λ (x : Nonced). x.block) e);
    }

pub aes_lawful : Lawful aes
unfolding aes256
aes_lawful =
    record {
      some = lit< tt;
      whole = λ size e. omega arith;
      long = λ key k n. length-aes key (counter_block k n);
      bytes = λ key k n. (cipher-state (key_expansion key) (counter_block k n) (counter-state k n)).bytes;
      once = λ k l m n hk hl hm hn e. counter-once k l m n hk hl (omega (arith, hm)) (omega (arith, hn)) e;
    }

pub lawful : (x : ℕ) → Lawful (cipher_of x)
lawful x = go (eqb x 16)
  where
    go : (b : Bool) → Lawful (cipher_by b)
    go true = aes_lawful
    go false = chacha20_lawful

-- a block has 64 bytes at most
pub unit-le : (x : ℕ) → unit_of x ≤ 64
unit-le x = go (eqb x 16)
  where
    go : (b : Bool) → (cipher_by b).unit ≤ 64
    go true = omega arith
    go false = omega arith

-- a stream that grows by one block of u bytes at a time: byte i is byte i % u of block i / u
module _ (u : ℕ) (block : ℕ → List ℕ) (stream : ℕ → List ℕ) (long : (j : ℕ) → length (block j) ≡ u) (none : stream 0 ≡ [])
    (more : (n : ℕ) → stream (suc n) ≡ stream n ++ block n) where
  pub length-blocks : (n : ℕ) → length (stream n) ≡ n * u
  length-blocks zero = ap length none ∙ omega arith
  length-blocks (suc n) = ap length (more n) ∙ length-append (stream n) (block n) ∙ rw (length-blocks n, long n) (sym (suc-mul n u))

  pub byte_in_lem : (n i : ℕ) → i < n * u → get_or (stream n) i 0 ≡ get_or (block (i / u)) (i % u) 0
  byte_in_lem zero i h = absurd (omega (arith, h))
  byte_in_lem (suc n) i h = ap (λ (l : List ℕ). get_or l i 0) (more n) ∙ go (told (ltb i (n * u))) (λ low. byte_in_lem n i low)
    where
      go : (ltb i (n * u) ≡ true) ⊎ (ltb i (n * u) ≡ false) → (i < n * u → get_or (stream n) i 0 ≡ get_or (block (i / u)) (i % u) 0)
          → get_or (stream n ++ block n) i 0 ≡ get_or (block (i / u)) (i % u) 0
      go (inl e) again =
          let low : i < n * u = ltb-true i (n * u) e in
          get_or-append (stream n) (block n) 0 i (rw (length-blocks n) low) ∙ again low
      go (inr e) again =
          let high : n * u ≤ i = omega (arith, ltb-false i (n * u) e) in
          let r = i - n * u in
          let small : r < u = omega (arith, h, suc-mul n u, high) in
          let at : i ≡ n * u + r = omega (arith, high) in
          let over : i ≡ length (stream n) + r = at ∙ ap (λ (x : ℕ). x + r) (sym (length-blocks n)) in
          ap (λ (x : ℕ). get_or (stream n ++ block n) x 0) over
          ∙ get_or-append-add (stream n) (block n) r 0
          ∙ sym (ap (λ (x : ℕ). get_or (block (x / u)) (x % u) 0) at ∙ rw (digits_div n small, digits_mod n small))

-- RFC 8439, 2.4, as long as the counter doesn't roll over
pub chacha20-byte : (key : List ℕ) (k c n i : ℕ) → c + n ≤ 2 ^ 32 → i < 64 * n → get_or (keystream key (nonce_of k) c n) i 0 ≡ stream_byte chacha20 key k c i
unfolding keystream
chacha20-byte key k c n i room h =
    let block : ℕ → List ℕ = λ j. block_of key (nonce_of k) (add32 c j) in
    let flat : add32 c (i / 64) ≡ c + i / 64 = mod-eq_of_lt (omega (arith, room, h)) in
    byte_in_lem 64 block (keystream key (nonce_of k) c) (λ j. length-block key (nonce_of k) (add32 c j)) refl (λ m. refl) n i (omega (arith, h))
    ∙ ap (λ (x : ℕ). get_or (block_of key (nonce_of k) x) (i % 64) 0) flat

-- SP 800-38A, 6.5, likewise
pub aes-byte : (key : List ℕ) (k c n i : ℕ) → c + n ≤ 2 ^ 64 → i < 16 * n → get_or (output_blocks (key_expansion key) k c n) i 0 ≡ stream_byte aes key k c i
unfolding output_blocks aes256
aes-byte key k c n i room h =
    let w = key_expansion key in
    let block : ℕ → List ℕ = λ j. cipher w (counter_block k (stepped c j)) in
    let flat : stepped c (i / 16) ≡ c + i / 16 = mod-eq_of_lt (omega (arith, room, h)) in
    byte_in_lem 16 block (output_blocks w k c) (λ j. length-aes key (counter_block k (stepped c j))) refl (λ m. refl) n i (omega (arith, h))
    ∙ ap (λ (x : ℕ). get_or (cipher w (counter_block k x)) (i % 16) 0) flat
