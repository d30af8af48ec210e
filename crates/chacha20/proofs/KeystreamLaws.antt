-- Laws of the keystream, and of laying it over bytes.
use Rattle.words.proofs.LeLaws.{bytes-append}
use Rattle.std.proofs.Common.{◌≡◌, ℕ, zero, suc, ◌+◌, ◌-◌, ◌*◌, ◌^◌, ◌≤◌, leb, List, [], ◌++◌, length, take, sym, refl, ◌∙◌, ⊎_elim, append_assoc, append-nil, add-zero, add-suc, arith, lit<, length-append, leb-false, leb-true}
use lib.Seq.{take-append-le}
use Rattle.base.proofs.PickLaws.{told}
use Rattle.words.specs.Word.{add32}
use Rattle.words.specs.Le.{Bytes}
use Rattle.words.specs.Xor.{xorl}
use Rattle.words.proofs.XorLaws.{length-xorl, xorl-append, xorl-front, xorl-back}
use Rattle.chacha20.specs.ChaCha20.{block_of, keystream, blocks, encrypted}
use Rattle.chacha20.proofs.BlockLaws.{length-block, block-bytes}

module _ (key nonce : List ℕ) (counter : ℕ) where
  pub length-keystream : (n : ℕ) → length (keystream key nonce counter n) ≡ 64 * n
  unfolding keystream
  length-keystream zero = refl
  length-keystream (suc n) =
      length-append (keystream key nonce counter n) (block_of key nonce (add32 counter n))
      ∙ rw (length-keystream n, length-block key nonce (add32 counter n)) (omega arith)

  pub keystream-bytes : (n : ℕ) → Bytes (keystream key nonce counter n)
  unfolding keystream
  keystream-bytes zero = λ i. lit< tt
  keystream-bytes (suc n) =
      bytes-append (keystream key nonce counter n) (block_of key nonce (add32 counter n)) (keystream-bytes n) (block-bytes key nonce (add32 counter n))

  -- m blocks, and n blocks from the next counter on
  pub keystream-add : (m n : ℕ) → keystream key nonce counter (m + n) ≡ keystream key nonce counter m ++ keystream key nonce (add32 counter m) n
  unfolding keystream
  keystream-add m zero = rw (add-zero m) (sym (append-nil (keystream key nonce counter m)))
  keystream-add m (suc n) =
      let same : add32 counter (m + n) ≡ add32 (add32 counter m) n = omega arith in
      rw (add-suc m n, keystream-add m n, same)
      (append_assoc (keystream key nonce counter m) (keystream key nonce (add32 counter m) n) (block_of key nonce (add32 (add32 counter m) n)))

  -- a longer keystream begins with a shorter one
  keystream_longer : (k m n : ℕ) → k ≤ 64 * m → m ≤ n → take k (keystream key nonce counter n) ≡ take k (keystream key nonce counter m)
  keystream_longer k m n h l =
      let e : n ≡ m + (n - m) = omega arith in
      rw (e, keystream-add m (n - m)) (take-append-le k (keystream key nonce counter m) _ (rw (length-keystream m) h))

  pub keystream-front : (k m n : ℕ) → k ≤ 64 * m → k ≤ 64 * n → take k (keystream key nonce counter m) ≡ take k (keystream key nonce counter n)
  keystream-front k m n h l =
      ⊎_elim (λ e. sym (keystream_longer k m n h (leb-true m n e))) (λ e. keystream_longer k n m l (omega (arith, leb-false m n e))) (told (leb m n))

  -- laying twice gives the bytes back
  pub encrypted-back : (text : List ℕ) → encrypted key nonce counter (encrypted key nonce counter text) ≡ text
  unfolding encrypted
  encrypted-back text =
      let k = keystream key nonce counter (blocks (length text)) in
      rw (length-xorl text k) (xorl-back text k)

  -- any keystream that is long enough will do
  pub encrypted-by : (text : List ℕ) (n : ℕ) → length text ≤ 64 * n → xorl text (keystream key nonce counter n) ≡ encrypted key nonce counter text
  unfolding encrypted
  encrypted-by text n h =
      let b = blocks (length text) in
      let e : n ≡ b + (n - b) = omega arith in
      rw (e, keystream-add b (n - b)) (xorl-front text (keystream key nonce counter b) _ (rw (length-keystream b) (omega arith)))

  -- whole blocks first, then the rest from the next counter on
  pub encrypted-append : (a b : List ℕ) (n : ℕ) → length a ≡ 64 * n
      → encrypted key nonce counter (a ++ b) ≡ encrypted key nonce counter a ++ encrypted key nonce (add32 counter n) b
  unfolding encrypted
  encrypted-append a b n e =
      let whole : blocks (length a + length b) ≡ n + blocks (length b) = omega arith in
      let front : blocks (length a) ≡ n = omega arith in
      rw (length-append a b, whole, front, keystream-add n (blocks (length b)))
      (xorl-append a b (keystream key nonce counter n) _ (e ∙ sym (length-keystream n)))

  pub encrypted-none : encrypted key nonce counter [] ≡ []
  unfolding encrypted xorl
  encrypted-none = refl

-- after block 2^32 - 1 comes block 0
pub keystream_rolls : (key nonce : List ℕ) → keystream key nonce (2 ^ 32 - 1) 2 ≡ block_of key nonce (2 ^ 32 - 1) ++ block_of key nonce 0
unfolding keystream
keystream_rolls key nonce = refl
